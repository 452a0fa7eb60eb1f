-- The words that lines begin with, and their texts.
use Rattle.std.specs.Prelude.{ℕ, List, codes}
use Rattle.dsv_certfile.specs.declared.job.Version.{Version}
use Rattle.dsv_certfile.specs.declared.job.Version.TheVariants as version
use Rattle.dsv_certfile.specs.declared.keyword.Keyword.{Keyword}
use Rattle.dsv_certfile.specs.declared.keyword.Keyword.TheVariants as keyword

abbrev pub keyword_text : Keyword → List ℕ
keyword_text keyword.Job = codes "job"
keyword_text keyword.Format = codes "format"
keyword_text keyword.Kind = codes "kind"
keyword_text keyword.Inequality = codes "ineq"
keyword_text keyword.Base = codes "base"
keyword_text keyword.Step = codes "step"
keyword_text keyword.Safe = codes "safe"
keyword_text keyword.Box = codes "box"
keyword_text keyword.Coefficient = codes "coefficient"
keyword_text keyword.Form = codes "form"
keyword_text keyword.Positive = codes "positive"
keyword_text keyword.Square = codes "square"
keyword_text keyword.Rest = codes "rest"
keyword_text keyword.Fall = codes "fall"
keyword_text keyword.States = codes "states"
keyword_text keyword.Level = codes "level"
keyword_text keyword.Lambda = codes "lambda"
keyword_text keyword.Mu = codes "mu"
keyword_text keyword.First = codes "first"
keyword_text keyword.End = codes "end"

-- the first line of each certificate of a version
abbrev pub version_text : Version → List ℕ
version_text version.One = codes "dsv-certificate 1"
version_text version.Two = codes "dsv-certificate 2"

-- the first line of each text that offers an ellipsoid
abbrev pub ellipsoid_version : List ℕ
ellipsoid_version = codes "dsv-ellipsoid 1"

-- the job line's last word, where there is no bound on the samples
abbrev pub unbounded_text : List ℕ
unbounded_text = codes "unbounded"

-- the job line's last word, where the property is that of the loop with a plant
abbrev pub plant_text : List ℕ
plant_text = codes "plant"

-- the word of a deletion, after its id
abbrev pub deletion_text : List ℕ
deletion_text = codes "d"

-- what ends a list of a step
abbrev pub zero_text : List ℕ
zero_text = codes "0"
