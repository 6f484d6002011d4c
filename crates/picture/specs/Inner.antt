-- What serves the contracts of inner functions alone: nothing here is promised. Assumes nothing.
use Rattle.std.specs.Prelude.{List, ◌≡◌, ℕ, ◌≤◌, Result, MatchResult}
use Rattle.picture.specs.declared.Edition.{Edition}
use Rattle.picture.specs.declared.Header.{Header}
use Rattle.picture.specs.declared.Places.{Places}
use Rattle.picture.specs.declared.State.{State}
use Rattle.picture.specs.declared.refusals.Refusal.{Refusal}
use Rattle.picture.specs.Layout.{state_number, edition1, edition2, endpoints_at, links_at, service_links_at, end_at}
use Rattle.picture.specs.Picture.{header_of}
use Rattle.picture.specs.Faults.{state_fault, picture_fault}
use Rattle.picture.specs.Refusals.{refusal_number}
use Rattle.picture.specs.Rules.{Counts}

-- where the parts after the slots start, and where the last field ends
unfoldable pub places_of : Header → Places
places_of h = record { endpoints = endpoints_at h; links = links_at h; service_links = service_links_at h; end = end_at h }

-- the state of a number in a picture, or the refusal of one that is none
abbrev pub StateOf : ℕ → Result State Refusal → Type 0
StateOf k r = MatchResult r (λ s. (state_number s ≡ k) × (state_fault k ≡ 0)) (λ e. refusal_number e ≡ state_fault k)

-- an edition is one of the two
pub data Known : Edition → Type 0 where
  first : Known edition1
  second : Known edition2

-- the edition is known and the counts keep their limits, so that no place in the bytes is out of a number's range
pub record Limited (h : Header) : Type 0 where
  pub known : Known h.edition
  pub slots : h.slots ≤ h.edition.slots_max
  pub counts : Counts h

-- the bytes are accepted, and the header is theirs: what the functions on an accepted picture rely on
pub record Read (bs : List ℕ) (h : Header) : Type 0 where
  pub accepted : picture_fault bs ≡ 0
  pub header : h ≡ header_of bs
