-- Digests that were logged: of one file, of more, and after others were read.
use Rattle.std.proofs.Common.{◌≡◌, ◌<◌, ◌≤◌, ◌+◌, ℕ, zero, suc, List, [], ◌∷◌, ◌++◌, length, map, take, get_or, refl, sym, subst, ap, ◌∙◌, arith}
use Rattle.std.specs.Prelude.{IfSome}
use Rattle.std.proofs.lemmas.List.{append_assoc}
use Rattle.sha2.specs.Sha256.{sha256}
use Rattle.dsv_base.specs.Lists.{Pairwise}
use Rattle.dsv_base.specs.Seen.{FilesSeen, AreKept, CameOf}
use Rattle.dsv_files.specs.declared.digests.FileDigest.{FileDigest}
use Rattle.dsv_files.specs.Digests.{NamedFile, section_named, DigestView, digest_view, IsDigestOf, AreLogged}
use Rattle.dsv_files.specs.Files.{FileKind, Content, IsText, limit_of, which_of}
use Rattle.dsv_files.specs.Titles.{title_for}
use Rattle.dsv_files.proofs.Pairwise.{pairs_weaker}

-- ---- one file
pub logged_one : (old : FilesSeen) (kind : FileKind) (name bytes : List ℕ) (x : Content kind) (before after : List FileDigest) → IfSome (old.held name) (λ file. bytes ≡ file)
    → length bytes ≤ limit_of (which_of kind) → IsText kind bytes x → map digest_view after ≡ map digest_view before ++ record { name = name; digest = sha256 bytes; title = title_for kind bytes } ∷ []
    → AreLogged old (record { kind = kind; name = name } ∷ []) before after
logged_one old kind name bytes x before after came short text grown = record {
  digests = record { name = name; digest = sha256 bytes; title = title_for kind bytes } ∷ [];
  are_digests = (record { same = refl; content = x; came = (bytes, came, (short, text, refl, refl)) }, tt);
  grown = grown;
}

-- ---- more files
pairs_append : {A B : Type 0} (R : A → B → Type 0) (xs zs : List A) (ys ws : List B) → Pairwise R xs ys → Pairwise R zs ws → Pairwise R (xs ++ zs) (ys ++ ws)
pairs_append R [] zs [] ws h k = k
pairs_append R [] zs (y ∷ ys) ws h k = absurd h
pairs_append R (x ∷ xs) zs [] ws h k = absurd h
pairs_append R (x ∷ xs) zs (y ∷ ys) ws h k = (h.0, pairs_append R xs zs ys ws h.1 k)

pub logged_more : (old : FilesSeen) (files others : List NamedFile) (before then after : List FileDigest) → AreLogged old files before then → AreLogged old others then after → AreLogged old (files ++ others) before after
logged_more old files others before then after h k = record {
  digests = h.digests ++ k.digests;
  are_digests = pairs_append (IsDigestOf old) files others h.digests k.digests h.are_digests k.are_digests;
  grown = k.grown ∙ ap (λ log. log ++ k.digests) h.grown ∙ append_assoc (map digest_view before) h.digests k.digests;
}

-- ---- after others were read
digest_earlier : (old then : FilesSeen) → AreKept old then → (file : NamedFile) (d : DigestView) → IsDigestOf then file d → IsDigestOf old file d
digest_earlier old then k file d h = record {
  same = h.same;
  content = h.content;
  came = subst (λ held. CameOf (held file.name) (λ bytes. (length bytes ≤ limit_of (which_of file.kind)) × IsText file.kind bytes h.content × (d.digest ≡ sha256 bytes) × (d.title ≡ title_for file.kind bytes))) k.held h.came;
}

pub logged_earlier : (old then : FilesSeen) (files : List NamedFile) (before after : List FileDigest) → AreKept old then → AreLogged then files before after → AreLogged old files before after
logged_earlier old then files before after k h = record {
  digests = h.digests;
  are_digests = pairs_weaker (IsDigestOf then) (IsDigestOf old) files h.digests (digest_earlier old then k) h.are_digests;
  grown = h.grown;
}

-- ---- sections up to a place
sections_next : (names : List (List ℕ)) (i : ℕ) (name : List ℕ) → i < length names → name ≡ get_or names i name → map section_named (take (suc i) names) ≡ map section_named (take i names) ++ section_named name ∷ []
sections_next [] i name l e = absurd (omega arith)
sections_next (n ∷ names) zero name l e = ap (λ it. section_named it ∷ []) (sym e)
sections_next (n ∷ names) (suc i) name l e = ap (λ rest. section_named n ∷ rest) (sections_next names i name (omega arith) e)

pub sections_more : (names : List (List ℕ)) (i : ℕ) (name : List ℕ) → i < length names → name ≡ get_or names i name → map section_named (take (i + 1) names) ≡ map section_named (take i names) ++ section_named name ∷ []
sections_more names i name l e =
    let n : suc i ≡ i + 1 = omega arith in
    subst (λ (k : ℕ). map section_named (take k names) ≡ map section_named (take i names) ++ section_named name ∷ []) n (sections_next names i name l e)
