-- What the program prints for a picture of any bytes. Document 01: "For A it prints exactly four lines ... Candidates rise; "none" prints
-- `choose none`; a refusal prints only `refused ` and the number. Output numbers are decimal." Assumes nothing.
use Rattle.std.specs.Prelude.{List, [], ◌∷◌, ◌++◌, map, ℕ, zero, suc, Option}
use Rattle.lists.specs.Lists.{flat}
use Rattle.picture.specs.Picture.{Picture, picture_of}
use Rattle.picture.specs.Faults.{picture_fault}
use Rattle.network.specs.declared.Cost.{Cost}
use Rattle.network.specs.Tests.{served_weight}
use Rattle.evidence.specs.declared.Stated.{Stated}
use Rattle.evidence.specs.Canonical.{stated_of, weighings, least, verdict_of, chosen_block, chosen_loss}
use Rattle.listing.specs.Decimal.{decimal}

-- ---- the words, byte by byte

-- "served "
unfoldable pub served_word : List ℕ
served_word = 115 ∷ 101 ∷ 114 ∷ 118 ∷ 101 ∷ 100 ∷ 32 ∷ []

-- "block "
unfoldable pub block_word : List ℕ
block_word = 98 ∷ 108 ∷ 111 ∷ 99 ∷ 107 ∷ 32 ∷ []

-- " lost "
unfoldable pub lost_word : List ℕ
lost_word = 32 ∷ 108 ∷ 111 ∷ 115 ∷ 116 ∷ 32 ∷ []

-- " mark "
unfoldable pub mark_word : List ℕ
mark_word = 32 ∷ 109 ∷ 97 ∷ 114 ∷ 107 ∷ 32 ∷ []

-- "choose "
unfoldable pub choose_word : List ℕ
choose_word = 99 ∷ 104 ∷ 111 ∷ 111 ∷ 115 ∷ 101 ∷ 32 ∷ []

-- "none"
unfoldable pub none_word : List ℕ
none_word = 110 ∷ 111 ∷ 110 ∷ 101 ∷ []

-- "refused "
unfoldable pub refused_word : List ℕ
refused_word = 114 ∷ 101 ∷ 102 ∷ 117 ∷ 115 ∷ 101 ∷ 100 ∷ 32 ∷ []

-- the end of a line
unfoldable pub line_end : List ℕ
line_end = 10 ∷ []

-- ---- the lines

-- a word and the number behind it
unfoldable pub phrase : List ℕ → ℕ → List ℕ
phrase word number = word ++ decimal number

-- "served 42"
unfoldable pub served_line : ℕ → List ℕ
served_line weight = phrase served_word weight ++ line_end

-- "block 0 lost 30 mark 1"
unfoldable pub block_line : Stated → List ℕ
block_line w = phrase block_word w.block ++ (phrase lost_word w.loss ++ (phrase mark_word w.mark ++ line_end))

-- "choose 1 lost 12", or "choose none" for verdict 0
unfoldable pub choice_line : ℕ → ℕ → ℕ → List ℕ
choice_line zero block loss = choose_word ++ (none_word ++ line_end)
choice_line (suc k) block loss = phrase choose_word block ++ (phrase lost_word loss ++ line_end)

-- "refused 7"
unfoldable pub refused_line : ℕ → List ℕ
refused_line number = phrase refused_word number ++ line_end

-- ---- the listing

-- the served weight, the candidates in rising order, and the choice among them
unfoldable pub plan_lines : Picture → List ℕ
plan_lines p =
    let ws : List Cost = weighings p in
    let c : Option Cost = least ws in
    served_line (served_weight p) ++ (flat (map (λ w. block_line (stated_of w)) ws) ++ choice_line (verdict_of c) (chosen_block c) (chosen_loss c))

-- 0 is a plan; any other number is a refusal, of which the number is all that is printed
unfoldable pub listing_of : ℕ → Picture → List ℕ
listing_of zero p = plan_lines p
listing_of (suc k) p = refused_line (suc k)

-- what is printed for any bytes
unfoldable pub listing : List ℕ → List ℕ
listing bs = listing_of (picture_fault bs) (picture_of bs)
