-- What keeps a file from being of its kind, and what it has, also after others were read.
use Rattle.std.proofs.Common.{◌≡◌, refl, subst, arith, inl, inr, ℕ, ◌+◌, ◌<◌, ◌≤◌, List, length}
use Rattle.std.specs.Prelude.{IfSome}
use Rattle.dsv_base.specs.Counts.{Rose}
use Rattle.dsv_base.specs.Seen.{FilesSeen, AreKept, CameOf}
use Rattle.dsv_base.proofs.TakingLemmas.{Rose-earlier}
use Rattle.dsv_token.specs.declared.refusal.FileRefusal.{FileRefusal}
use Rattle.dsv_token.specs.declared.refusal.FileRefusal.TheVariants as text
use Rattle.dsv_token.specs.Memory.{Refuses}
use Rattle.dsv_reader.specs.Reading.{reading, plant_reading}
use Rattle.dsv_certfile.specs.Answers as certificates
use Rattle.dsv_certfile.specs.Reading.{certificate_in}
use Rattle.dsv_certfile.specs.declared.fault.CertRefusal.{CertRefusal}
use Rattle.dsv_certfile.specs.declared.fault.CertRefusal.TheVariants as unread
use Rattle.dsv_report.specs.Stops.{stop_of_file, stop_of_text}
use Rattle.dsv_report.specs.declared.stop.Stop.{Stop}
use Rattle.dsv_report.specs.declared.stop.Stop.TheVariants as stop
use Rattle.dsv_report.specs.declared.stop.WhichFile.{WhichFile}
use Rattle.dsv_report.specs.declared.stop.WhichFile.TheVariants as file
use Rattle.dsv_files.specs.FileBytes.{IsOfController, controller_kind}
use Rattle.dsv_files.specs.Files.{FileKind, a_controller, a_section, a_state_controller, a_plant, a_certificate, an_ellipsoid, some_inputs, which_of, limit_of, too_long_of, longest_file, longest_certificate, longest_inputs, NoneCame, Content, IsText, IsFaulty, IsFileOf, IsUnread}
use Rattle.dsv_files.proofs.Told.{more_came}

-- ---- bytes that didn't come
pub long_unread : (old new : FilesSeen) (name : List ℕ) (which : WhichFile) (why : Stop) → why ≡ too_long_of which → IfSome (old.held name) (λ file. limit_of which < length file)
    → Rose (old.came + limit_of which) new.came → NoneCame old new name which why
long_unread old new name file.Controller why e h r = rw e (refl, more_came longest_file (old.held name) h, r)
long_unread old new name (file.Section section) why e h r = rw e (refl, more_came longest_file (old.held name) h, r)
long_unread old new name file.Plant why e h r = rw e (refl, more_came longest_file (old.held name) h, r)
long_unread old new name file.Certificate why e h r = rw e (refl, more_came longest_certificate (old.held name) h, r)
long_unread old new name file.Inputs why e h r = rw e (refl, more_came longest_inputs (old.held name) h, r)

-- of a controller, or of a section
pub none_of_controller : (old new : FilesSeen) (name : List ℕ) (which : WhichFile) (why : Stop) → IsOfController which → NoneCame old new name which why → IsUnread (controller_kind which) old new name why
none_of_controller old new name file.Controller why o h = inl h
none_of_controller old new name (file.Section section) why o h = inl h
none_of_controller old new name which why o h = absurd o

-- ---- bytes that came
-- what the reading of a controller refuses
pub controller_faulty : (old new : FilesSeen) (name bytes : List ℕ) (which : WhichFile) (r : FileRefusal) → IsOfController which → IfSome (old.held name) (λ file. bytes ≡ file) → length bytes ≤ limit_of which
    → Refuses r (reading bytes) → IsUnread (controller_kind which) old new name (stop_of_file which r)
controller_faulty old new name bytes file.Controller text.NoMemory o e short h = inl tt
controller_faulty old new name bytes file.Controller r o e short h = inr (bytes, e, (short, (refl, h)))
controller_faulty old new name bytes (file.Section section) text.NoMemory o e short h = inl tt
controller_faulty old new name bytes (file.Section section) r o e short h = inr (bytes, e, (short, (refl, h)))
controller_faulty old new name bytes which r o e short h = absurd o

pub text_fits : (which : WhichFile) → IsOfController which → (bytes : List ℕ) → length bytes ≤ limit_of which → length bytes ≤ longest_file
text_fits file.Controller h bytes l = l
text_fits (file.Section section) h bytes l = l
text_fits which h bytes l = absurd h

pub plant_faulty : (old new : FilesSeen) (name bytes : List ℕ) (r : FileRefusal) → IfSome (old.held name) (λ file. bytes ≡ file) → length bytes ≤ longest_file → Refuses r (plant_reading bytes)
    → IsUnread a_plant old new name (stop_of_file file.Plant r)
plant_faulty old new name bytes text.NoMemory e short h = inl tt
plant_faulty old new name bytes r e short h = inr (bytes, e, (short, (refl, h)))

pub certificate_faulty : (old new : FilesSeen) (name bytes : List ℕ) (r : CertRefusal) → IfSome (old.held name) (λ file. bytes ≡ file) → length bytes ≤ longest_certificate
    → certificates.Refuses r (certificate_in bytes) → IsUnread a_certificate old new name (stop_of_text r)
certificate_faulty old new name bytes (unread.Text line why) e short h = inr (bytes, e, (short, h))
certificate_faulty old new name bytes unread.NoMemory e short h = inl tt

-- ---- after others were read
none_earlier : (old then new : FilesSeen) (name : List ℕ) (which : WhichFile) (why : Stop) → AreKept old then → old.came ≤ then.came → NoneCame then new name which why → NoneCame old new name which why
none_earlier old then new name which (stop.ReadFault w) k l h = (h.0, Rose-earlier old.faults then.faults new.faults k.faults h.1, h.2)
none_earlier old then new name which stop.NoMemory k l h = tt
none_earlier old then new name which why k l h =
    (h.0, subst (λ held. CameOf (held name) (λ bytes. limit_of which < length bytes)) k.held h.1, Rose-earlier (old.came + limit_of which) (then.came + limit_of which) new.came (omega arith) h.2)

pub file_earlier : (kind : FileKind) (old then new : FilesSeen) (name : List ℕ) (why : Stop) → AreKept old then → old.came ≤ then.came → IsUnread kind then new name why → IsUnread kind old new name why
file_earlier kind old then new name why k l (inl h) = inl (none_earlier old then new name (which_of kind) why k l h)
file_earlier kind old then new name why k l (inr h) = inr (subst (λ held. CameOf (held name) (λ bytes. (length bytes ≤ limit_of (which_of kind)) × IsFaulty kind bytes why)) k.held h)

pub text_earlier : (kind : FileKind) (old then : FilesSeen) (name : List ℕ) (x : Content kind) → AreKept old then → IsFileOf kind then name x → IsFileOf kind old name x
text_earlier kind old then name x k h = subst (λ held. CameOf (held name) (λ bytes. (length bytes ≤ limit_of (which_of kind)) × IsText kind bytes x)) k.held h

-- ---- faults of reads
no_read_fault : (kind : FileKind) (bytes : List ℕ) (which : WhichFile) → IsFaulty kind bytes (stop.ReadFault which) → ⊥
no_read_fault a_controller bytes which h = h
no_read_fault (a_section section) bytes which h = h
no_read_fault a_state_controller bytes which h = h
no_read_fault a_plant bytes which h = h
no_read_fault a_certificate bytes which h = h
no_read_fault an_ellipsoid bytes which h = h
no_read_fault some_inputs bytes which h = h

pub file_rose : (kind : FileKind) (old new : FilesSeen) (name : List ℕ) (which : WhichFile) → IsUnread kind old new name (stop.ReadFault which) → Rose old.faults new.faults
file_rose kind old new name which (inl h) = h.1
file_rose kind old new name which (inr (bytes, came, (short, h))) = absurd (no_read_fault kind bytes which h)
