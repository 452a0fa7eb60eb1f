-- Comment lines and the header line of a text: what reading them gives, and what they are.
use Rattle.std.proofs.Common.{◌≡◌, ℕ, ◌+◌, ◌-◌, ◌^◌, ◌<◌, ◌≤◌, List, [], ◌∷◌, ◌++◌, inr, Ok, length, drop, codes, decimal, refl, arith, ap, sym, subst, ◌∙◌, append_assoc, append-nil, length-append}
use Rattle.std.specs.Prelude.{Result}
use Rattle.dsv_cnf.specs.Dimacs.{header_text}
use Rattle.dsv_cnf.specs.Reading.{number_end, word_end}
use Rattle.dsv_cnf.specs.declared.reader.CnfRefusal.{CnfRefusal}
use Rattle.dsv_cnf.specs.declared.reader.Header.{Header}
use Rattle.dsv_cnf.specs.declared.reader.Number.{Number}
use Rattle.dsv_cnf.proofs.HeaderOutcomes.{last_step, clauses_step, space_step, vars_step, header_within, WordThen, NumberThen, IsEmpty, AfterWord, InNumber, NoFault, HeaderOutcome, Fault, FirstNoDigit, outcome-word, outcome-number}
use Rattle.dsv_cnf.proofs.HeaderSteps.{BeginsNoDigit, said_word, word-taken, said_number_end, number-taken}
use Rattle.dsv_cnf.proofs.ListLemmas.{drop-more}

-- greater than any number of a header
abbrev pub most : ℕ
most = 2 ^ 64 - 1

-- ---- the texts of header lines, from each step on

abbrev pub Last : List ℕ → Type 0
Last = WordThen (codes "\n") IsEmpty

abbrev pub Clauses : ℕ → List ℕ → Type 0
Clauses c = NumberThen c Last

abbrev pub Space : ℕ → List ℕ → Type 0
Space c = WordThen (codes " ") (Clauses c)

abbrev pub Vars : ℕ → ℕ → List ℕ → Type 0
Vars v c = NumberThen v (Space c)

abbrev pub Line : ℕ → ℕ → List ℕ → Type 0
Line v c = WordThen (codes "p cnf ") (Vars v c)

-- ---- numbers that are too large

abbrev pub LastFault : List ℕ → ℕ → Type 0
LastFault = AfterWord (codes "\n") NoFault

abbrev pub ClausesFault : ℕ → List ℕ → ℕ → Type 0
ClausesFault c = InNumber c LastFault

abbrev pub SpaceFault : ℕ → List ℕ → ℕ → Type 0
SpaceFault c = AfterWord (codes " ") (ClausesFault c)

abbrev pub VarsFault : ℕ → ℕ → List ℕ → ℕ → Type 0
VarsFault v c = InNumber v (SpaceFault c)

abbrev pub LineFault : ℕ → ℕ → List ℕ → ℕ → Type 0
LineFault v c = AfterWord (codes "p cnf ") (VarsFault v c)

-- ---- texts of each

some_last : Last (codes "\n")
some_last = ([], refl, refl)

some_clauses : (c : ℕ) → Clauses c (decimal 0 ++ codes "\n")
some_clauses c = (0, omega arith, codes "\n", refl, some_last)

some_space : (c : ℕ) → Space c (codes " " ++ (decimal 0 ++ codes "\n"))
some_space c = (decimal 0 ++ codes "\n", refl, some_clauses c)

some_vars : (v c : ℕ) → Vars v c (decimal 0 ++ (codes " " ++ (decimal 0 ++ codes "\n")))
some_vars v c = (0, omega arith, codes " " ++ (decimal 0 ++ codes "\n"), refl, some_space c)

abbrev pub a_line : List ℕ
a_line = codes "p cnf " ++ (decimal 0 ++ (codes " " ++ (decimal 0 ++ codes "\n")))

pub some_line : (v c : ℕ) → Line v c a_line
some_line v c = (decimal 0 ++ (codes " " ++ (decimal 0 ++ codes "\n")), refl, some_vars v c)

first_space : (c : ℕ) → FirstNoDigit (Space c)
first_space c text w = subst (λ t. (0 < length t) × BeginsNoDigit t) (sym w.1) (omega arith, refl)

first_last : FirstNoDigit Last
first_last text w = subst (λ t. (0 < length t) × BeginsNoDigit t) (sym w.1) (omega arith, refl)

-- ---- each step

at_end : (F : Header → List ℕ) (P : Header → Type 0) (S : List ℕ → ℕ → Type 0) (bytes word rest : List ℕ) (at end : ℕ) (o : Result Header CnfRefusal) → drop at bytes ≡ word ++ rest → end ≡ at + length word
    → HeaderOutcome F P S (drop end bytes) end o → HeaderOutcome F P S rest (at + length word) o
at_end F P S bytes word rest at end o e f h =
    let g : drop end bytes ≡ rest = ap (λ k. drop k bytes) f ∙ drop-more bytes word rest at e in
    subst (λ (k : ℕ). HeaderOutcome F P S rest k o) f (subst (λ t. HeaderOutcome F P S t end o) g h)

last_outcome : (bytes : List ℕ) (vars clauses : Number)
    → HeaderOutcome (λ h. codes "\n") (λ h. (h.clauses ≡ clauses.value) × (h.vars ≡ vars.value)) (Fault Last Last LastFault) (drop clauses.end bytes) clauses.end (last_step bytes vars clauses)
last_outcome bytes vars clauses =
    outcome-word (λ h. []) (λ h. (h.clauses ≡ clauses.value) × (h.vars ≡ vars.value)) IsEmpty IsEmpty NoFault (codes "\n") (drop clauses.end bytes) [] clauses.end (word_end (codes "\n") (drop clauses.end bytes) clauses.end)
    (λ end. Ok (record { vars = vars.value; clauses = clauses.value; end = end })) refl (said_word (codes "\n") (drop clauses.end bytes) clauses.end)
    (λ rest e. let n : clauses.end + 1 ≡ clauses.end + 1 + 0 = omega arith in (rest, refl, n, (refl, refl)))

clauses_outcome : (limit : ℕ) (bytes : List ℕ) (vars : Number) (c : ℕ) → limit < 2 ^ 60
    → HeaderOutcome (λ h. decimal h.clauses ++ codes "\n") (λ h. (h.clauses ≤ limit) × (h.vars ≡ vars.value)) (Fault (Clauses limit) (Clauses most) (ClausesFault limit)) (drop c bytes) c (clauses_step limit bytes vars c)
clauses_outcome limit bytes vars c wide =
    outcome-number (λ h. codes "\n") (λ n h. (h.clauses ≡ n.value) × (h.vars ≡ vars.value)) (λ h. (h.clauses ≤ limit) × (h.vars ≡ vars.value)) (λ h. h.clauses) Last Last LastFault limit most
    (drop c bytes) (codes "\n") c (number_end limit (drop c bytes) c) (last_step bytes vars) first_last (omega arith) (omega (arith, wide)) some_last (said_number_end limit (drop c bytes) c wide)
    (λ n h le p. let e = p.0 in (p.0, (omega (arith, e, le), p.1)))
    (λ n rest e f. at_end (λ h. codes "\n") (λ h. (h.clauses ≡ n.value) × (h.vars ≡ vars.value)) (Fault Last Last LastFault) bytes (decimal n.value) rest c n.end (last_step bytes vars n) e f (last_outcome bytes vars n))

space_outcome : (limit : ℕ) (bytes : List ℕ) (vars : Number) → limit < 2 ^ 60
    → HeaderOutcome (λ h. codes " " ++ (decimal h.clauses ++ codes "\n")) (λ h. (h.clauses ≤ limit) × (h.vars ≡ vars.value)) (Fault (Space limit) (Space most) (SpaceFault limit)) (drop vars.end bytes) vars.end (space_step limit bytes vars)
space_outcome limit bytes vars wide =
    outcome-word (λ h. decimal h.clauses ++ codes "\n") (λ h. (h.clauses ≤ limit) × (h.vars ≡ vars.value)) (Clauses limit) (Clauses most) (ClausesFault limit) (codes " ") (drop vars.end bytes) (decimal 0 ++ codes "\n") vars.end
    (word_end (codes " ") (drop vars.end bytes) vars.end) (clauses_step limit bytes vars) (some_clauses limit) (said_word (codes " ") (drop vars.end bytes) vars.end)
    (λ rest e. at_end (λ h. decimal h.clauses ++ codes "\n") (λ h. (h.clauses ≤ limit) × (h.vars ≡ vars.value)) (Fault (Clauses limit) (Clauses most) (ClausesFault limit)) bytes (codes " ") rest vars.end (vars.end + 1)
    (clauses_step limit bytes vars (vars.end + 1)) e refl (clauses_outcome limit bytes vars (vars.end + 1) wide))

vars_outcome : (few limit : ℕ) (bytes : List ℕ) (v : ℕ) → few < 2 ^ 60 → limit < 2 ^ 60
    → HeaderOutcome (λ h. decimal h.vars ++ (codes " " ++ (decimal h.clauses ++ codes "\n"))) (λ h. (h.vars ≤ few) × (h.clauses ≤ limit)) (Fault (Vars few limit) (Vars most most) (VarsFault few limit)) (drop v bytes) v (vars_step few limit bytes v)
vars_outcome few limit bytes v small wide =
    outcome-number (λ h. codes " " ++ (decimal h.clauses ++ codes "\n")) (λ n h. (h.clauses ≤ limit) × (h.vars ≡ n.value)) (λ h. (h.vars ≤ few) × (h.clauses ≤ limit)) (λ h. h.vars) (Space limit) (Space most) (SpaceFault limit) few most
    (drop v bytes) (codes " " ++ (decimal 0 ++ codes "\n")) v (number_end few (drop v bytes) v) (space_step limit bytes) (first_space most) (omega arith) (omega (arith, small)) (some_space limit) (said_number_end few (drop v bytes) v small)
    (λ n h le p. let e = p.1 in (p.1, (omega (arith, e, le), p.0)))
    (λ n rest e f. at_end (λ h. codes " " ++ (decimal h.clauses ++ codes "\n")) (λ h. (h.clauses ≤ limit) × (h.vars ≡ n.value)) (Fault (Space limit) (Space most) (SpaceFault limit)) bytes (decimal n.value) rest v n.end
    (space_step limit bytes n) e f (space_outcome limit bytes n wide))

abbrev pub line_text : Header → List ℕ
line_text h = codes "p cnf " ++ (decimal h.vars ++ (codes " " ++ (decimal h.clauses ++ codes "\n")))

pub line_outcome : (few limit : ℕ) (bytes : List ℕ) (at : ℕ) → few < 2 ^ 60 → limit < 2 ^ 60
    → HeaderOutcome line_text (λ h. (h.vars ≤ few) × (h.clauses ≤ limit)) (Fault (Line few limit) (Line most most) (LineFault few limit)) (drop at bytes) at (header_within few limit bytes at)
line_outcome few limit bytes at small wide =
    outcome-word (λ h. decimal h.vars ++ (codes " " ++ (decimal h.clauses ++ codes "\n"))) (λ h. (h.vars ≤ few) × (h.clauses ≤ limit)) (Vars few limit) (Vars most most) (VarsFault few limit) (codes "p cnf ") (drop at bytes)
    (decimal 0 ++ (codes " " ++ (decimal 0 ++ codes "\n"))) at (word_end (codes "p cnf ") (drop at bytes) at) (vars_step few limit bytes) (some_vars few limit) (said_word (codes "p cnf ") (drop at bytes) at)
    (λ rest e. at_end (λ h. decimal h.vars ++ (codes " " ++ (decimal h.clauses ++ codes "\n"))) (λ h. (h.vars ≤ few) × (h.clauses ≤ limit)) (Fault (Vars few limit) (Vars most most) (VarsFault few limit)) bytes (codes "p cnf ") rest at (at + 6)
    (vars_step few limit bytes (at + 6)) e refl (vars_outcome few limit bytes (at + 6) small wide))

-- ---- the header line is read

pub header-shape : (v c : ℕ) (body : List ℕ) → header_text v c ++ body ≡ codes "p cnf " ++ (decimal v ++ (codes " " ++ (decimal c ++ (codes "\n" ++ body))))
header-shape v c body = simp append_assoc

pub line-header : (h : Header) → line_text h ≡ header_text h.vars h.clauses
line-header h = sym (header-shape h.vars h.clauses []) ∙ append-nil (header_text h.vars h.clauses)

steps-taken : (few limit : ℕ) (bytes : List ℕ) (at v n c m e : ℕ) (vars clauses : ℕ) → word_end (codes "p cnf ") (drop at bytes) at ≡ Ok v → number_end few (drop v bytes) v ≡ Ok (record { value = vars; end = n })
    → word_end (codes " ") (drop n bytes) n ≡ Ok c → number_end limit (drop c bytes) c ≡ Ok (record { value = clauses; end = m }) → word_end (codes "\n") (drop m bytes) m ≡ Ok e
    → header_within few limit bytes at ≡ Ok (record { vars = vars; clauses = clauses; end = e })
steps-taken few limit bytes at v n c m e vars clauses p q r s t = rw p (rw q (rw r (rw s (rw t refl))))

pub line-taken : (few limit : ℕ) (bytes : List ℕ) (at vars clauses : ℕ) (body : List ℕ) → few < 2 ^ 64 → limit < 2 ^ 64 → vars ≤ few → clauses ≤ limit → drop at bytes ≡ header_text vars clauses ++ body
    → header_within few limit bytes at ≡ Ok (record { vars = vars; clauses = clauses; end = at + length (header_text vars clauses) })
line-taken few limit bytes at vars clauses body small wide le fits e =
    let v = decimal vars in
    let c = decimal clauses in
    let r4 : List ℕ = codes "\n" ++ body in
    let r3 : List ℕ = c ++ r4 in
    let r2 : List ℕ = codes " " ++ r3 in
    let r1 : List ℕ = v ++ r2 in
    let a0 : drop at bytes ≡ codes "p cnf " ++ r1 = e ∙ header-shape vars clauses body in
    let at1 = at + 6 in
    let a1 : drop at1 bytes ≡ r1 = drop-more bytes (codes "p cnf ") r1 at a0 in
    let at2 = at1 + length v in
    let a2 : drop at2 bytes ≡ r2 = drop-more bytes v r2 at1 a1 in
    let at3 = at2 + 1 in
    let a3 : drop at3 bytes ≡ r3 = drop-more bytes (codes " ") r3 at2 a2 in
    let at4 = at3 + length c in
    let a4 : drop at4 bytes ≡ r4 = drop-more bytes c r4 at3 a3 in
    let at5 = at4 + 1 in
    let n : length (header_text vars clauses) ≡ 6 + length v + 1 + length c + 1 = omega (arith, length-parts v c) in
    let end : at5 ≡ at + length (header_text vars clauses) = omega (arith, n) in
    steps-taken few limit bytes at at1 at2 at3 at4 at5 vars clauses
    (ap (λ t. word_end (codes "p cnf ") t at) a0 ∙ word-taken (codes "p cnf ") r1 at)
    (ap (λ t. number_end few t at1) a1 ∙ number-taken few vars 32 r3 at1 small le (inr refl))
    (ap (λ t. word_end (codes " ") t at2) a2 ∙ word-taken (codes " ") r3 at2)
    (ap (λ t. number_end limit t at3) a3 ∙ number-taken limit clauses 10 body at3 wide fits (inr refl))
    (ap (λ t. word_end (codes "\n") t at4) a4 ∙ word-taken (codes "\n") body at4)
    ∙ ap (λ (k : ℕ). Ok (record { vars = vars; clauses = clauses; end = k })) end
  where
    length-parts : (v c : List ℕ) → length (codes "p cnf" ++ ((32 ∷ v) ++ ((32 ∷ c) ++ [])) ++ 10 ∷ []) ≡ 6 + length v + 1 + length c + 1
    length-parts v c = grind (arith, length-append)
