-- The text of a file that was read is one of its texts.
use Rattle.std.proofs.Common.{◌≡◌, ◌∙◌, sym, ap, ℕ, zero, suc, ◌+◌, true, List, [], ◌∷◌, ◌++◌, length, map, decimal, refl, append_assoc, codes, arith}
use Rattle.std.specs.Prelude.{Result, Ok}
use Rattle.std.specs.List.{All}
use Rattle.std.proofs.lemmas.List.{append-nil}
use Rattle.std.proofs.lemmas.List.Elements.{All-nil, All-cons}
use Rattle.dsv_text.specs.Stages.{◌>>=◌}
use Rattle.dsv_fraction.specs.Ratio.{Ratio}
use Rattle.dsv_lines.specs.Pieces.{pieces_of, TextLines, unended, line, lines_of, LinesLeft, all_lines, is_ended}
use Rattle.dsv_lines.specs.Readings.{Reading, reading_of}
use Rattle.dsv_lines.specs.Texts.{Line}
use Rattle.dsv_lines.proofs.ReadLines.{line_bytes-pieces_of, lines-read}
use Rattle.dsv_lines.proofs.WrittenLines.{line_bytes, onto_lines, onto_lines-append}
use Rattle.dsv_state_file.specs.Heads.{IsHead}
use Rattle.dsv_state_file.specs.Reading.{words_after, version_in, format_in, vector_in, range_in, states_in, line_from, line_in, rows_from, head_in, file_in, whole_text, state_of}
use Rattle.dsv_state_file.specs.StateFiles.{StateFileView, IsStateFile}
use Rattle.dsv_state_file.specs.StateTexts.{IsDecimal, AreDecimals, AreRows, Numbers, state_lines, IsStateText}
use Rattle.dsv_state_file.specs.declared.reader.Head.{Head}
use Rattle.dsv_state_file.specs.declared.reader.Range.{Range}
use Rattle.dsv_state_file.specs.declared.words.Format.{Format}
use Rattle.dsv_state_file.specs.declared.refusal.StateRefusal.{StateRefusal}
use Rattle.dsv_state_file.specs.declared.refusal.StateRefusal.TheVariants as refusal
use Rattle.dsv_state_file.proofs.Binds.{unbind, passed}
use Rattle.dsv_state_file.proofs.FileStages.{head_of, file_of, after_version, after_format, after_range, after_states, after_rows, after_b, after_c, after_d, after_end}
use Rattle.dsv_state_file.proofs.ReadParts.{words_read, version_read, format_read, states_read, vector_read, range_read, one_read}

-- ---- one line
pub record FromRead {X : Type 0} (read : ℕ → Line → Result X StateRefusal) (n : ℕ) (t : TextLines) (r : Reading X) : Type 0 where
  pub words : Line
  pub lines : t ≡ line (line_bytes words) r.left.lines
  pub value : read n words ≡ Ok r.value

from_read : {X : Type 0} (read : ℕ → Line → Result X StateRefusal) (n : ℕ) (t : TextLines) (r : Reading X) → line_from read n t ≡ Ok r → FromRead read n t r
from_read read n (unended bytes) r e = absurd (cc)
from_read {X = X} read n (line bytes more) r e =
    let left : LinesLeft = record { lines = more; number = n + 1 } in
    let b = unbind (read n (pieces_of bytes)) (λ (x : X). Ok (reading_of x left)) r e in
    let same : reading_of b.value left ≡ r = let s = b.second in cc in
    record {
      words = pieces_of bytes;
      lines = ap (λ t. line t more) (sym (line_bytes-pieces_of bytes)) ∙ ap (λ (r : Reading X). line (line_bytes (pieces_of bytes)) r.left.lines) same;
      value = b.first ∙ ap (λ (r : Reading X). Ok r.value) same;
    }

line_read : {X : Type 0} (read : ℕ → Line → Result X StateRefusal) (ls : LinesLeft) (r : Reading X) → line_in read ls ≡ Ok r → FromRead read ls.number ls.lines r
line_read read ls r e = from_read read ls.number ls.lines r e

-- ---- rows
abbrev pub row_lines : List Line → List Line
row_lines = map (λ row. codes "a" ∷ row)

pub record RowsRead (states k : ℕ) (old : List (List Ratio)) (ls : LinesLeft) (r : Reading (List (List Ratio))) : Type 0 where
  pub texts : List Line
  pub matrix : List (List Ratio)
  pub value : r.value ≡ old ++ matrix
  pub lines : ls.lines ≡ onto_lines (row_lines texts) r.left.lines
  pub are : AreRows texts matrix
  pub many : length matrix ≡ k
  pub square : All (λ row. length row ≡ states) matrix

pub rows_read : (states k : ℕ) (old : List (List Ratio)) (ls : LinesLeft) (r : Reading (List (List Ratio))) → rows_from states k old ls ≡ Ok r → RowsRead states k old ls r
rows_read states zero old ls r e =
    let same : reading_of old ls ≡ r = cc in
    record {
      texts = [];
      matrix = [];
      value = ap (λ (r : Reading (List (List Ratio))). r.value) (sym same) ∙ sym (append-nil old);
      lines = ap (λ (r : Reading (List (List Ratio))). r.left.lines) same;
      are = tt;
      many = refl;
      square = All-nil (λ row. length row ≡ states);
    }
rows_read states (suc k) old ls r e =
    let b = unbind (line_in (vector_in (codes "a") states) ls) (λ (row : Reading (List Ratio)). rows_from states k (old ++ row.value ∷ []) row.left) r e in
    let x = b.value.value in
    let l = line_read (vector_in (codes "a") states) ls b.value b.first in
    let v = vector_read (codes "a") states ls.number l.words x l.value in
    let m = rows_read states k (old ++ x ∷ []) b.value.left r b.second in
    record {
      texts = v.words ∷ m.texts;
      matrix = x ∷ m.matrix;
      value = m.value ∙ append_assoc old (x ∷ []) m.matrix;
      lines = l.lines ∙ ap (λ (w : Line). line (line_bytes w) b.value.left.lines) v.line ∙ ap (line (line_bytes (codes "a" ∷ v.words))) m.lines;
      are = (v.are, m.are);
      many = ap suc m.many;
      square = All-cons (λ row. length row ≡ states) x m.matrix v.many m.square;
    }

-- ---- the lines up to `states N`
abbrev pub first_lines : Format → ℕ → List ℕ → List ℕ → List Line
first_lines format states min max =
    (codes "dsv-state-space" ∷ codes "1" ∷ []) ∷ (codes "format" ∷ decimal format.int_bits ∷ decimal format.frac_bits ∷ [])
    ∷ (codes "range" ∷ min ∷ max ∷ []) ∷ (codes "states" ∷ decimal states ∷ []) ∷ []

-- four lines, one after another
four_lines : (a b c d e : TextLines) (k l m n k' l' m' n' : Line) → a ≡ line (line_bytes k) b → b ≡ line (line_bytes l) c → c ≡ line (line_bytes m) d
    → d ≡ line (line_bytes n) e → k ≡ k' → l ≡ l' → m ≡ m' → n ≡ n' → a ≡ onto_lines (k' ∷ l' ∷ m' ∷ n' ∷ []) e
four_lines a b c d e k l m n k' l' m' n' p q r s ek el em en = rw (← ek, ← el, ← em, ← en, ← s, ← r, ← q) p

pub record HeadRead (ls : LinesLeft) (r : Reading Head) : Type 0 where
  pub min : List ℕ
  pub max : List ℕ
  pub lines : ls.lines ≡ onto_lines (first_lines r.value.format r.value.states min max) r.left.lines
  pub is_min : IsDecimal min r.value.range.min
  pub is_max : IsDecimal max r.value.range.max
  pub lawful : IsHead r.value

pub head_read : (ls : LinesLeft) (r : Reading Head) → head_in ls ≡ Ok r → HeadRead ls r
head_read ls r e =
    let a = unbind (line_in version_in ls) after_version r e in
    let b = unbind (line_in format_in a.value.left) after_format r a.second in
    let c = unbind (line_in range_in b.value.left) (after_range b.value.value) r b.second in
    let d = unbind (line_in states_in c.value.left) (after_states b.value.value c.value.value) r c.second in
    let la = line_read version_in ls a.value a.first in
    let lb = line_read format_in a.value.left b.value b.first in
    let lc = line_read range_in b.value.left c.value c.first in
    let ld = line_read states_in c.value.left d.value d.first in
    let version = version_read ls.number la.words a.value.value la.value in
    let format = format_read a.value.left.number lb.words b.value.value lb.value in
    let range = range_read b.value.left.number lc.words c.value.value lc.value in
    let states = states_read c.value.left.number ld.words d.value.value ld.value in
    let read : Reading Head = reading_of (head_of b.value.value c.value.value d.value.value) d.value.left in
    let same : read ≡ r = let s = d.second in cc in
    let whole : HeadRead ls read = record {
      min = range.min;
      max = range.max;
      lines = four_lines ls.lines a.value.left.lines b.value.left.lines c.value.left.lines d.value.left.lines la.words lb.words lc.words ld.words
          (codes "dsv-state-space" ∷ codes "1" ∷ []) (codes "format" ∷ decimal b.value.value.int_bits ∷ decimal b.value.value.frac_bits ∷ [])
          (codes "range" ∷ range.min ∷ range.max ∷ []) (codes "states" ∷ decimal d.value.value ∷ [])
          la.lines lb.lines lc.lines ld.lines version format.line range.line states.line;
      is_min = range.is_min;
      is_max = range.is_max;
      lawful = record { some = states.some; few = states.few; int_bits = format.some; wide = format.wide; narrow = format.narrow };
    } in
    rw same at whole

-- ---- the lines after that
abbrev pub last_lines : Line → Line → List ℕ → List Line
last_lines b c d = (codes "b" ∷ b) ∷ (codes "c" ∷ c) ∷ (codes "d" ∷ d ∷ []) ∷ (codes "end" ∷ []) ∷ []

pub record FileRead (head : Head) (ls : LinesLeft) (r : Reading StateFileView) : Type 0 where
  pub a : List Line
  pub b : Line
  pub c : Line
  pub d : List ℕ
  pub lines : ls.lines ≡ onto_lines (row_lines a) (onto_lines (last_lines b c d) r.left.lines)
  pub is_a : AreRows a r.value.a
  pub is_b : AreDecimals b r.value.b
  pub is_c : AreDecimals c r.value.c
  pub is_d : IsDecimal d r.value.d
  pub lawful : IsHead head → IsStateFile r.value
  pub format : head.format ≡ record { int_bits = r.value.int_bits; frac_bits = r.value.frac_bits }
  pub states : head.states ≡ r.value.states
  pub range : head.range ≡ record { min = r.value.min; max = r.value.max }

same_length : {A : Type 0} (xs ys : List A) (n : ℕ) → xs ≡ ys → length ys ≡ n → length xs ≡ n
same_length xs ys n e h = ap length e ∙ h

no_words : (words : Line) → length words ≡ 0 → words ≡ []
no_words [] h = refl
no_words (w ∷ ws) h = absurd (omega (arith, h))

end_line : (l words : Line) → l ≡ codes "end" ∷ words → length words ≡ 0 → l ≡ codes "end" ∷ []
end_line l words e h = e ∙ ap (λ ws. codes "end" ∷ ws) (no_words words h)

both_parts : (rows last : List Line) (a b c : TextLines) → a ≡ onto_lines rows b → b ≡ onto_lines last c → a ≡ onto_lines rows (onto_lines last c)
both_parts rows last a b c e f = e ∙ ap (onto_lines rows) f

pub file_read : (head : Head) (ls : LinesLeft) (r : Reading StateFileView) → file_in head ls ≡ Ok r → FileRead head ls r
file_read head ls r e =
    let a = unbind (rows_from head.states head.states [] ls) (after_rows head) r e in
    let b = unbind (line_in (vector_in (codes "b") head.states) a.value.left) (after_b head a.value.value) r a.second in
    let c = unbind (line_in (vector_in (codes "c") head.states) b.value.left) (after_c head a.value.value b.value.value) r b.second in
    let d = unbind (line_in (vector_in (codes "d") 1) c.value.left) (after_d head a.value.value b.value.value c.value.value) r c.second in
    let f = unbind (line_in (words_after (codes "end") 0) d.value.left) (after_end head a.value.value b.value.value c.value.value d.value.value) r d.second in
    let rows = rows_read head.states head.states [] ls a.value a.first in
    let lb = line_read (vector_in (codes "b") head.states) a.value.left b.value b.first in
    let lc = line_read (vector_in (codes "c") head.states) b.value.left c.value c.first in
    let ld = line_read (vector_in (codes "d") 1) c.value.left d.value d.first in
    let lf = line_read (words_after (codes "end") 0) d.value.left f.value f.first in
    let vb = vector_read (codes "b") head.states a.value.left.number lb.words b.value.value lb.value in
    let vc = vector_read (codes "c") head.states b.value.left.number lc.words c.value.value lc.value in
    let vd = vector_read (codes "d") 1 c.value.left.number ld.words d.value.value ld.value in
    let one = one_read ld.words vd.words d.value.value vd.line vd.many vd.are in
    let end = words_read (codes "end") 0 d.value.left.number lf.words f.value.value lf.value in
    let last = end_line lf.words f.value.value end.pieces_are end.many in
    let read : Reading StateFileView = reading_of (file_of head a.value.value b.value.value c.value.value d.value.value) f.value.left in
    let same : read ≡ r = let s = f.second in cc in
    let whole : FileRead head ls read = record {
      a = rows.texts;
      b = vb.words;
      c = vc.words;
      d = one.text;
      lines = both_parts (row_lines rows.texts) (last_lines vb.words vc.words one.text) ls.lines a.value.left.lines f.value.left.lines rows.lines
          (four_lines a.value.left.lines b.value.left.lines c.value.left.lines d.value.left.lines f.value.left.lines lb.words lc.words ld.words lf.words
          (codes "b" ∷ vb.words) (codes "c" ∷ vc.words) (codes "d" ∷ one.text ∷ []) (codes "end" ∷ [])
          lb.lines lc.lines ld.lines lf.lines vb.line vc.line one.line last);
      is_a = rw (rows.value) (rows.are);
      is_b = vb.are;
      is_c = vc.are;
      is_d = one.is;
      lawful = λ h. record {
        some = h.some;
        few = h.few;
        rows = same_length a.value.value rows.matrix head.states rows.value rows.many;
        square = rw (rows.value) (rows.square);
        inputs = vb.many;
        outputs = vc.many;
        int_bits = h.int_bits;
        wide = h.wide;
        narrow = h.narrow;
      };
      format = refl;
      states = refl;
      range = refl;
    } in
    rw same at whole

-- ---- the whole text
ended : (t : TextLines) → is_ended t ≡ true → t ≡ unended []
ended (unended []) h = refl
ended (unended (b ∷ bs)) h = absurd (cc)
ended (line bytes more) h = absurd (cc)

all_parts : (first rows last : List Line) (a b c : TextLines) → a ≡ onto_lines first b → b ≡ onto_lines rows (onto_lines last c) → c ≡ unended []
    → a ≡ onto_lines (first ++ (rows ++ last)) (unended [])
all_parts first rows last a b c e f g =
    e ∙ ap (onto_lines first) (f ∙ ap (λ t. onto_lines rows (onto_lines last t)) g ∙ sym (onto_lines-append rows last (unended [])))
    ∙ sym (onto_lines-append first (rows ++ last) (unended []))

text_read : (text : List ℕ) (head : Reading Head) (file : Reading StateFileView) → HeadRead (all_lines text) head → FileRead head.value head.left file
    → is_ended file.left.lines ≡ true → IsStateText text file.value
text_read text head file h f e =
    let v = file.value in
    let numbers : Numbers = record { min = h.min; max = h.max; a = f.a; b = f.b; c = f.c; d = f.d } in
    let format : Format = record { int_bits = v.int_bits; frac_bits = v.frac_bits } in
    let first : first_lines head.value.format head.value.states h.min h.max ≡ first_lines format v.states h.min h.max =
    ap (λ (g : Format). first_lines g head.value.states h.min h.max) f.format ∙ ap (λ n. first_lines format n h.min h.max) f.states in
    record {
      numbers = numbers;
      lines = lines-read text (state_lines v numbers)
          (all_parts (first_lines format v.states h.min h.max) (row_lines f.a) (last_lines f.b f.c f.d) (lines_of text) head.left.lines file.left.lines
          (h.lines ∙ ap (λ (ls : List Line). onto_lines ls head.left.lines) first) f.lines (ended file.left.lines e));
      min = rw (ap (λ (r : Range). r.min) f.range) at h.is_min;
      max = rw (ap (λ (r : Range). r.max) f.range) at h.is_max;
      a = f.is_a;
      b = f.is_b;
      c = f.is_c;
      d = f.is_d;
      lawful = f.lawful h.lawful;
    }

pub state_read : (text : List ℕ) (file : StateFileView) → state_of text ≡ Ok file → IsStateText text file
state_read text file e =
    let a = unbind (head_in (all_lines text)) (λ (head : Reading Head). file_in head.value head.left >>= whole_text) file e in
    let b = unbind (file_in a.value.value a.value.left) whole_text file a.second in
    let p = passed (is_ended b.value.left.lines) b.value.value file (refusal.Line b.value.left.number) b.second in
    rw p.1 at (text_read text a.value b.value (head_read (all_lines text) a.value a.first) (file_read a.value.value a.value.left b.value b.first) p.0)
