-- What is listed of bytes with a fault. So the program may read the longest picture and a byte more: the listing of those bytes is that of all
-- the input. Assumes nothing.
use mathlib.Core.Path.{◌≡◌, refl, sym, ap, ◌∙◌}
use mathlib.Core.Logic.{◌≢◌, by_cases}
use mathlib.Core.List.{List}
use Prim.Native.Nat.{ℕ, zero, suc, ◌+◌, ◌<◌}
use native.Mathlib.Omega.{arith}
use native.Mathlib.Decide.{dec_lt}
use lib.ListN.{length, take}
use lib.Seq.{take_all}
use Rattle.picture.specs.Layout.{picture_max}
use Rattle.picture.specs.Faults.{picture_fault}
use Rattle.picture.proofs.Long.{fault_same, faulty}
use Rattle.listing.specs.Listing.{refused_line, listing, listing_of}

-- bytes with a fault are listed as a refusal
pub listing_refused : (bs : List ℕ) (k : ℕ) → picture_fault bs ≡ k → k ≢ 0 → listing bs ≡ refused_line k
unfolding listing listing_of
listing_refused bs zero e n = absurd (n refl)
listing_refused bs (suc k) e n = rw e

-- any number of bytes over that of the longest picture will do
listing_long : (m : ℕ) → picture_max < m → (bs : List ℕ) → listing (take m bs) ≡ listing bs
listing_long m wide bs =
    by_cases (dec_lt m (length bs))
    (λ over.
    let f = faulty m wide bs over in
    listing_refused (take m bs) (picture_fault bs) (fault_same m wide bs over) f ∙ sym (listing_refused bs (picture_fault bs) refl f))
    (λ l. ap listing (take_all m bs (omega arith)))

-- the listing of the bytes that the program reads is that of all the input
pub long_listing : (bs : List ℕ) → listing (take (picture_max + 1) bs) ≡ listing bs
long_listing = listing_long (picture_max + 1) (omega arith)
