-- What a certificate says of the format of a controller's words.
use Rattle.std.specs.Prelude.{ℕ, ◌+◌, nat_le, if◌then◌else◌}
use Rattle.dsv_certfile.specs.Limits.{narrow_word_bits}
use Rattle.dsv_certfile.specs.declared.job.CertWords.{CertWords}
use Rattle.dsv_certfile.specs.declared.job.CertWords.TheVariants as words
use Rattle.dsv_certfile.specs.declared.job.CertifiedJob.{CertifiedJob}

-- what certificates of a controller say whose words have so many bits before the point and after it
abbrev pub words_for : ℕ → ℕ → CertWords
words_for int_bits frac_bits = if nat_le (int_bits + frac_bits) narrow_word_bits
    then words.Unsaid else words.Said int_bits frac_bits

-- the job, with this said of the words
abbrev pub with_words : CertWords → CertifiedJob → CertifiedJob
with_words said job = record {
  property = job.property;
  design = job.design;
  words = said;
  size = job.size;
}
