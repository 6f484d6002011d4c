-- What is found of the form of evidence. Assumes nothing.
use Rattle.std.specs.Prelude.{◌&&◌, cond, List, ℕ, length, Option, Some, None}
use Rattle.picture.specs.declared.Edition.{Edition}
use Rattle.evidence.specs.Checks.{head_right, sections_right}

-- the number of these candidates, where the form is right for them
unfoldable pub form_of : Edition → ℕ → List ℕ → List ℕ → Option ℕ
form_of e n ev cs = cond (sections_right e n ev cs && head_right e n ev (length cs)) (Some (length cs)) None
