-- One table of worked examples: each row is a question about some bytes and the numbers that document 01 says. What a call answers is told by
-- 01's number and values, and a buffer by all of its bytes. Assumes nothing.
use Rattle.std.specs.Prelude.{true, false, List, [], ◌∷◌, ◌++◌, ℕ, ◌*◌, ◌-◌, ◌/◌, ◌%◌, set, length, take, drop, replicate}
use Rattle.picture.specs.declared.Header.{Header}
use Rattle.picture.specs.Picture.{picture_of}
use Rattle.picture.specs.Answers.{reading, reading_numbers}
use Rattle.network.specs.Tests.{served_weight}
use Rattle.weigh.specs.Weighing.{weighing, weighing_numbers}
use Rattle.price.specs.Answers.{pricing, pricing_numbers}
use Rattle.evidence.specs.Canonical.{evidence_of}
use Rattle.evidence.specs.Calls.{chosen_bytes, shown}
use Rattle.choose.specs.Answers.{choosing, choosing_numbers}
use Rattle.checker.specs.Answers.{checking, checking_numbers}
use Rattle.acts.specs.declared.Act.{Act}
use Rattle.acts.specs.declared.Act.TheVariants.{Evict, Reload, Free}
use Rattle.acts.specs.Answers.{acting, act_bytes, acting_numbers}
use Rattle.demands.specs.Calls.{Call, call_bytes, bytes_after}
use Rattle.write.specs.Columns.{Lists, handed, lists_in}
use Rattle.write.specs.Answers.{writing, writing_numbers, written_bytes}
use Rattle.draws.specs.Draws.{draw}
use Rattle.generator.specs.Generated.{asked_header}
use Rattle.generator.specs.Answers.{generating, generated_bytes}
use Rattle.listing.specs.Listing.{listing}
use Rattle.examples.specs.Cases.{evidence_a, lists_with, lists_a, case_a, case_b, case_c, case_d, case_e, case_f, case_g, case_h, case_i, case_j, case_k, case_m, case_fewer, case_zero, case_equal, case_wide, case_second, evidence_second, case_far, evidence_far, case_flat, flat_second, flat_records, lines_a, lines_far}

-- what is asked
pub data Question : Type 0 where
  -- what reading a picture answers
  read : List ℕ → Question
  -- what weighing a block answers
  weigh : List ℕ → ℕ → Question
  -- what choose answers with a buffer, and the first k bytes of the buffer at exit
  choose : List ℕ → List ℕ → ℕ → Question
  -- what a check of evidence answers
  check : List ℕ → List ℕ → Question
  -- the part of the evidence that show hands back
  show : List ℕ → List ℕ → Question
  -- what the program prints
  list : List ℕ → Question
  -- what an act answers, and the picture's bytes at exit
  act : Act → List ℕ → ℕ → Question
  -- what each call of a list answers, and then the served weight and the picture's bytes
  calls : List ℕ → List Call → Question
  -- what writing lists answers with a buffer, and the buffer at exit
  write : Lists → List ℕ → Question
  -- draw k of a seed, counted from 1
  drawn : ℕ → ℕ → Question
  -- what generating answers for a seed, the header that is asked for and a buffer, and the buffer at exit
  generate : ℕ → Header → List ℕ → Question
  -- what pricing a picture's blocks answers for records
  price : List ℕ → List ℕ → Question

-- what the calls of a list answer, one after another
unfoldable pub call_numbers : List ℕ → List Call → List ℕ
call_numbers bs [] = []
call_numbers bs (c ∷ cs) = acting_numbers (acting c.act bs c.block) ++ call_numbers (call_bytes bs c) cs

-- what the definitions answer
unfoldable pub answer : Question → List ℕ
answer (read bs) = reading_numbers (reading bs)
answer (weigh bs b) = weighing_numbers (weighing bs b)
answer (choose bs buf k) = choosing_numbers (choosing bs buf) ++ take k (chosen_bytes bs buf)
answer (check bs ev) = checking_numbers (checking bs ev)
answer (show bs ev) = shown bs ev
answer (list bs) = listing bs
answer (act a bs b) = acting_numbers (acting a bs b) ++ act_bytes a bs b
answer (calls bs cs) = call_numbers bs cs ++ (served_weight (picture_of (bytes_after bs cs)) ∷ bytes_after bs cs)
answer (write l buf) = writing_numbers (writing l buf) ++ written_bytes l buf
answer (drawn seed k) = draw seed k ∷ []
answer (generate seed h buf) = writing_numbers (generating h buf) ++ generated_bytes seed h buf
answer (price bs records) = pricing_numbers (pricing bs records)

-- a question, and what document 01 says
pub record Row : Type 0 where
  pub question : Question
  pub says : List ℕ

-- a picture of n far slots, all held, with nothing else: its first byte, which has the edition and β, n, and the bytes of the slots
unfoldable pub slots_only : ℕ → ℕ → ℕ → List ℕ
slots_only first n bytes = first ∷ n ∷ 0 ∷ 0 ∷ 0 ∷ 0 ∷ 0 ∷ replicate bytes 0

-- the same in edition 2, whose header has n in 12 bits, the upper eight and then the lower four, and κ behind it
unfoldable pub slots_only_second : ℕ → ℕ → ℕ → List ℕ
slots_only_second first n bytes = first ∷ n / 16 ∷ n % 16 * 16 ∷ 0 ∷ 0 ∷ 0 ∷ 0 ∷ 0 ∷ replicate bytes 0

-- 320 far slots in blocks of 8, and one link, whose bytes these are
unfoldable pub one_link : List ℕ → List ℕ
one_link link = set (slots_only_second 0x28 320 120) 6 0x10 ++ link

-- a picture of A's size with these bytes of slots
unfoldable pub with_slots : ℕ → ℕ → List ℕ → List ℕ
with_slots first second bs = set (set bs 7 first) 8 second

-- A with block 1 freed
unfoldable pub freed_a : List ℕ
freed_a = with_slots 0x26 0xD0 case_a

-- A with κ 4: all four slots, which are near, may be held
unfoldable pub room_a : List ℕ
room_a = set case_a 2 4

-- six calls, one after another, all on block 1 but the third
unfoldable pub calls_a : List Call
calls_a =
    record { act = Evict; block = 1 }
    ∷ record { act = Reload; block = 1 }
    ∷ record { act = Evict; block = 0 }
    ∷ record { act = Evict; block = 1 }
    ∷ record { act = Free; block = 1 }
    ∷ record { act = Reload; block = 1 }
    ∷ []

-- K with service link 4-1 for 4-2: endpoint 1 is served over block 0, and has a recoverable chain over block 1 besides
unfoldable pub chain_besides : List ℕ
chain_besides = set case_k 26 0x04

-- K with service link 3-1, twice, for 1-1 and 2-1: endpoint 1 has one chain, over slot 1, which is held, and slot 3, which is recoverable
unfoldable pub chain_over_both : List ℕ
chain_over_both = set (set case_k 21 0x0C) 23 0x0C

-- four calls on G with κ 4
unfoldable pub calls_g : List Call
calls_g =
    record { act = Free; block = 0 }
    ∷ record { act = Evict; block = 0 }
    ∷ record { act = Free; block = 1 }
    ∷ record { act = Reload; block = 0 }
    ∷ []

-- the wide blocks with block 1, slots 16 to 30, evicted
unfoldable pub evicted_wide : List ℕ
evicted_wide = take 12 case_wide ++ (0x4B ∷ 0x6D ∷ 0xB6 ∷ 0xDB ∷ 0x6D ∷ 0xB6 ∷ 0xC0 ∷ drop 19 case_wide)

-- A's network in edition 2 with block 1 evicted, and with block 1 freed
unfoldable pub evicted_second : List ℕ
evicted_second = set (set case_second 8 0x25) 9 0xB0

unfoldable pub freed_second : List ℕ
freed_second = set (set case_second 8 0x26) 9 0xD0

-- one held near slot under this near limit, in this edition
unfoldable pub one_slot : ℕ → ℕ → Lists
one_slot edition limit = handed edition 1 limit (0 ∷ []) (true ∷ []) [] [] [] []

-- sixty counters, of which the first are these
unfoldable pub sixty : List ℕ → List ℕ
sixty counters = counters ++ replicate (60 - length counters) 0

-- lists of which nothing is right: β 0, κ 65535, a state without its mark, a weight without its mark, and links to what is not there
unfoldable pub all_wrong : ℕ → Lists
all_wrong edition = handed edition 0 0xFFFF (3 ∷ []) [] (5 ∷ []) [] ((9 ∷ 9 ∷ []) ∷ []) ((9 ∷ 9 ∷ []) ∷ [])

-- A's sizes filled from seed 1: states 2, 0, 0, 0, three slots near, weights 15784 and 20321, and so on
unfoldable pub drawn_a : List ℕ
drawn_a =
    0x12 ∷ 0x04 ∷ 0x04 ∷ 0x02 ∷ 0x00 ∷ 0x40 ∷ 0x03 ∷ 0xA4 ∷ 0x13 ∷ 0xDA ∷ 0x82 ∷ 0x7B ∷ 0x08 ∷ 0x10 ∷ 0x08 ∷ 0x04 ∷ 0x10 ∷ 0x00 ∷ 0x04 ∷ 0x10 ∷ 0x08 ∷ 0x04 ∷ 0x04 ∷ 0x00 ∷ 0x04 ∷ 0x0C ∷ 0x08 ∷ []

unfoldable pub table : List Row
table =
    -- 01, "Numbers by example"
    record { question = read case_a; says = 0 ∷ 1 ∷ 2 ∷ 4 ∷ 2 ∷ 2 ∷ 4 ∷ 3 ∷ [] }
    ∷ record { question = read []; says = 1 ∷ [] }
    ∷ record { question = read (set case_a 0 0x32); says = 2 ∷ [] }
    ∷ record { question = read (set case_a 0 0x13); says = 3 ∷ [] }
    ∷ record { question = read (set case_a 3 201); says = 4 ∷ [] }
    ∷ record { question = read (set case_a 7 0xE4); says = 5 ∷ [] }
    ∷ record { question = read (set case_a 14 0x14); says = 6 ∷ [] }
    ∷ record { question = read (case_a ++ (0 ∷ [])); says = 7 ∷ [] }
    -- 01, "The picture": accepted β 1 with n 60, β 8 with n 240; refused β 1 with n 61, n 0, D 201
    ∷ record { question = read (slots_only 0x11 60 23); says = 0 ∷ 1 ∷ 1 ∷ 60 ∷ 0 ∷ 0 ∷ 0 ∷ 0 ∷ [] }
    ∷ record { question = read (slots_only 0x18 240 90); says = 0 ∷ 1 ∷ 8 ∷ 240 ∷ 0 ∷ 0 ∷ 0 ∷ 0 ∷ [] }
    ∷ record { question = read (slots_only 0x11 61 23); says = 3 ∷ [] }
    ∷ record { question = read (slots_only 0x11 0 0); says = 3 ∷ [] }
    ∷ record { question = read (set (slots_only 0x11 60 500) 3 201); says = 4 ∷ [] }
    -- a picture that the header makes longer than it is, and a fill bit that is set
    ∷ record { question = read (slots_only 0x18 240 89); says = 1 ∷ [] }
    ∷ record { question = read (set case_a 26 0x09); says = 7 ∷ [] }
    -- blocks of up to 15 slots (02, C-18): accepted β 9 with n 9, which 01 refuses, and β 15 with n 240, 16 blocks; refused β 15 with n 16 and
    -- with n 255, and β 0; and by a later rule, where it was 3: β 9 with D 201, a byte too few, slot 1 state 3, a byte too many
    ∷ record { question = read (slots_only 0x19 9 4); says = 0 ∷ 1 ∷ 9 ∷ 9 ∷ 0 ∷ 0 ∷ 0 ∷ 0 ∷ [] }
    ∷ record { question = read (slots_only 0x1F 240 90); says = 0 ∷ 1 ∷ 15 ∷ 240 ∷ 0 ∷ 0 ∷ 0 ∷ 0 ∷ [] }
    ∷ record { question = read (slots_only 0x1F 16 6); says = 3 ∷ [] }
    ∷ record { question = read (slots_only 0x1F 255 96); says = 3 ∷ [] }
    ∷ record { question = read (slots_only 0x10 4 2); says = 3 ∷ [] }
    ∷ record { question = read (set (slots_only 0x19 9 4) 3 201); says = 4 ∷ [] }
    ∷ record { question = read (slots_only 0x19 9 3); says = 1 ∷ [] }
    ∷ record { question = read (set (slots_only 0x19 9 4) 7 0xC0); says = 5 ∷ [] }
    ∷ record { question = read (slots_only 0x19 9 5); says = 7 ∷ [] }
    -- what a service link names (02, C-14): the first one's location 5 (17) or endpoint 0 (18), the last one's endpoint 3 (18); both of the
    -- first one (17), its endpoint and the second one's location (18), and the other way round (17); either of them after a link's end 5 (6),
    -- and before a fill bit (17)
    ∷ record { question = read (set case_a 21 0x14); says = 17 ∷ [] }
    ∷ record { question = read (set case_a 22 0x00); says = 18 ∷ [] }
    ∷ record { question = read (set case_a 26 0x0C); says = 18 ∷ [] }
    ∷ record { question = read (set (set case_a 21 0x14) 22 0x00); says = 17 ∷ [] }
    ∷ record { question = read (set (set case_a 22 0x00) 23 0x14); says = 18 ∷ [] }
    ∷ record { question = read (set (set case_a 21 0x14) 24 0x00); says = 17 ∷ [] }
    ∷ record { question = read (set (set case_a 20 0x14) 21 0x14); says = 6 ∷ [] }
    ∷ record { question = read (set (set case_a 20 0x14) 22 0x00); says = 6 ∷ [] }
    ∷ record { question = read (set (set case_a 21 0x14) 26 0x09); says = 17 ∷ [] }
    -- one slot, no endpoint, and a service link 0-1 (18) or 2-1 (17)
    ∷ record { question = read (0x11 ∷ 1 ∷ 0 ∷ 0 ∷ 0 ∷ 0 ∷ 1 ∷ 0x00 ∷ 0x00 ∷ 0x20 ∷ []); says = 18 ∷ [] }
    ∷ record { question = read (0x11 ∷ 1 ∷ 0 ∷ 0 ∷ 0 ∷ 0 ∷ 1 ∷ 0x00 ∷ 0x40 ∷ 0x20 ∷ []); says = 17 ∷ [] }
    -- the other calls say the same, the program too ("refused 17", "refused 18")
    ∷ record { question = weigh (set case_a 21 0x14) 2; says = 17 ∷ [] }
    ∷ record { question = choose (set case_a 22 0x00) (replicate 3 0xEE) 3; says = 18 ∷ replicate 3 0xEE }
    ∷ record { question = check (set case_a 21 0x14) []; says = 17 ∷ [] }
    ∷ record { question = act Evict (set case_a 22 0x00) 0; says = 18 ∷ set case_a 22 0x00 }
    ∷ record { question = list (set case_a 21 0x14); says = 114 ∷ 101 ∷ 102 ∷ 117 ∷ 115 ∷ 101 ∷ 100 ∷ 32 ∷ 49 ∷ 55 ∷ 10 ∷ [] }
    ∷ record { question = list (set case_a 22 0x00); says = 114 ∷ 101 ∷ 102 ∷ 117 ∷ 115 ∷ 101 ∷ 100 ∷ 32 ∷ 49 ∷ 56 ∷ 10 ∷ [] }
    -- weigh: served weight, and loss and mark of each block
    ∷ record { question = weigh case_a 0; says = 0 ∷ 42 ∷ 30 ∷ 1 ∷ [] }
    ∷ record { question = weigh case_a 1; says = 0 ∷ 42 ∷ 12 ∷ 0 ∷ [] }
    ∷ record { question = weigh case_b 0; says = 0 ∷ 42 ∷ 30 ∷ 0 ∷ [] }
    ∷ record { question = weigh case_b 1; says = 0 ∷ 42 ∷ 12 ∷ 0 ∷ [] }
    ∷ record { question = weigh case_c 0; says = 0 ∷ 42 ∷ 30 ∷ 1 ∷ [] }
    ∷ record { question = weigh case_c 1; says = 0 ∷ 42 ∷ 12 ∷ 1 ∷ [] }
    ∷ record { question = weigh case_d 0; says = 0 ∷ 60 ∷ 30 ∷ 0 ∷ [] }
    ∷ record { question = weigh case_d 1; says = 0 ∷ 60 ∷ 30 ∷ 0 ∷ [] }
    ∷ record { question = weigh case_e 0; says = 0 ∷ 42 ∷ 30 ∷ 1 ∷ [] }
    ∷ record { question = weigh case_e 1; says = 0 ∷ 42 ∷ 12 ∷ 0 ∷ [] }
    ∷ record { question = weigh case_f 0; says = 0 ∷ 30 ∷ 30 ∷ 1 ∷ [] }
    ∷ record { question = weigh case_f 1; says = 0 ∷ 30 ∷ 0 ∷ 0 ∷ [] }
    ∷ record { question = weigh case_g 0; says = 0 ∷ 0 ∷ 0 ∷ 0 ∷ [] }
    ∷ record { question = weigh case_g 1; says = 0 ∷ 0 ∷ 0 ∷ 0 ∷ [] }
    ∷ record { question = weigh case_h 0; says = 0 ∷ 42 ∷ 30 ∷ 1 ∷ [] }
    ∷ record { question = weigh case_h 1; says = 0 ∷ 42 ∷ 12 ∷ 0 ∷ [] }
    ∷ record { question = weigh case_i 0; says = 0 ∷ 42 ∷ 30 ∷ 1 ∷ [] }
    ∷ record { question = weigh case_i 1; says = 0 ∷ 42 ∷ 12 ∷ 0 ∷ [] }
    ∷ record { question = weigh case_j 0; says = 0 ∷ 12 ∷ 0 ∷ 1 ∷ [] }
    ∷ record { question = weigh case_j 1; says = 0 ∷ 12 ∷ 12 ∷ 0 ∷ [] }
    ∷ record { question = weigh case_k 0; says = 0 ∷ 30 ∷ 30 ∷ 1 ∷ [] }
    ∷ record { question = weigh case_k 1; says = 0 ∷ 30 ∷ 0 ∷ 0 ∷ [] }
    ∷ record { question = weigh case_m 0; says = 0 ∷ 0 ∷ 0 ∷ 0 ∷ [] }
    ∷ record { question = weigh case_m 1; says = 0 ∷ 0 ∷ 0 ∷ 0 ∷ [] }
    ∷ record { question = weigh case_a 2; says = 8 ∷ [] }
    ∷ record { question = weigh case_a 0xFFFFFFFF; says = 8 ∷ [] }
    ∷ record { question = weigh [] 0; says = 1 ∷ [] }
    -- choose: the length of the evidence, its head (verdict, block, candidates, served weight, loss), and that it passes
    ∷ record { question = choose case_a (replicate 43 0) 9; says = 0 ∷ 43 ∷ 0x11 ∷ 1 ∷ 2 ∷ 0 ∷ 0 ∷ 42 ∷ 0 ∷ 0 ∷ 12 ∷ [] }
    ∷ record { question = check case_a (evidence_of case_a); says = 0 ∷ [] }
    ∷ record { question = choose case_b (replicate 43 0) 9; says = 0 ∷ 43 ∷ 0x11 ∷ 1 ∷ 2 ∷ 0 ∷ 0 ∷ 42 ∷ 0 ∷ 0 ∷ 12 ∷ [] }
    ∷ record { question = check case_b (evidence_of case_b); says = 0 ∷ [] }
    ∷ record { question = choose case_c (replicate 43 0) 9; says = 0 ∷ 43 ∷ 0x10 ∷ 0 ∷ 2 ∷ 0 ∷ 0 ∷ 42 ∷ 0 ∷ 0 ∷ 0 ∷ [] }
    ∷ record { question = check case_c (evidence_of case_c); says = 0 ∷ [] }
    ∷ record { question = choose case_d (replicate 43 0) 9; says = 0 ∷ 43 ∷ 0x11 ∷ 0 ∷ 2 ∷ 0 ∷ 0 ∷ 60 ∷ 0 ∷ 0 ∷ 30 ∷ [] }
    ∷ record { question = check case_d (evidence_of case_d); says = 0 ∷ [] }
    ∷ record { question = choose case_e (replicate 17 0) 9; says = 0 ∷ 17 ∷ 0x10 ∷ 0 ∷ 0 ∷ 0 ∷ 0 ∷ 42 ∷ 0 ∷ 0 ∷ 0 ∷ [] }
    ∷ record { question = check case_e (evidence_of case_e); says = 0 ∷ [] }
    ∷ record { question = choose case_f (replicate 43 0) 9; says = 0 ∷ 43 ∷ 0x11 ∷ 1 ∷ 2 ∷ 0 ∷ 0 ∷ 30 ∷ 0 ∷ 0 ∷ 0 ∷ [] }
    ∷ record { question = check case_f (evidence_of case_f); says = 0 ∷ [] }
    ∷ record { question = choose case_g (replicate 17 0) 9; says = 0 ∷ 17 ∷ 0x10 ∷ 0 ∷ 0 ∷ 0 ∷ 0 ∷ 0 ∷ 0 ∷ 0 ∷ 0 ∷ [] }
    ∷ record { question = check case_g (evidence_of case_g); says = 0 ∷ [] }
    ∷ record { question = choose case_h (replicate 43 0) 43; says = 0 ∷ 43 ∷ evidence_a }
    ∷ record { question = check case_h (evidence_of case_h); says = 0 ∷ [] }
    -- I: slots 1 and 3 are unreached
    ∷ record { question = choose case_i (replicate 43 0) 17; says = 0 ∷ 43 ∷ 0x11 ∷ 1 ∷ 2 ∷ 0 ∷ 0 ∷ 42 ∷ 0 ∷ 0 ∷ 12 ∷ 0 ∷ 0 ∷ 0 ∷ 1 ∷ 0 ∷ 0 ∷ 0 ∷ 1 ∷ [] }
    ∷ record { question = check case_i (evidence_of case_i); says = 0 ∷ [] }
    ∷ record { question = choose case_j (replicate 43 0) 9; says = 0 ∷ 43 ∷ 0x11 ∷ 1 ∷ 2 ∷ 0 ∷ 0 ∷ 12 ∷ 0 ∷ 0 ∷ 12 ∷ [] }
    ∷ record { question = check case_j (evidence_of case_j); says = 0 ∷ [] }
    ∷ record { question = choose case_k (replicate 30 0) 9; says = 0 ∷ 30 ∷ 0x10 ∷ 0 ∷ 1 ∷ 0 ∷ 0 ∷ 30 ∷ 0 ∷ 0 ∷ 0 ∷ [] }
    ∷ record { question = check case_k (evidence_of case_k); says = 0 ∷ [] }
    ∷ record { question = choose case_m (replicate 43 0) 9; says = 0 ∷ 43 ∷ 0x11 ∷ 0 ∷ 2 ∷ 0 ∷ 0 ∷ 0 ∷ 0 ∷ 0 ∷ 0 ∷ [] }
    ∷ record { question = check case_m (evidence_of case_m); says = 0 ∷ [] }
    -- A's evidence in full, also where the buffer has more bytes, which stay; and the refusals of choose and check: a buffer that is a byte short
    -- and no picture, after which the buffer is as it was, no evidence, and A's evidence with a byte more or one changed
    ∷ record { question = choose case_a (replicate 43 0) 43; says = 0 ∷ 43 ∷ evidence_a }
    ∷ record { question = choose case_a (replicate 50 0xEE) 50; says = 0 ∷ 43 ∷ (evidence_a ++ replicate 7 0xEE) }
    ∷ record { question = choose case_a (replicate 42 0xEE) 42; says = 9 ∷ replicate 42 0xEE }
    ∷ record { question = choose [] (replicate 3 0xEE) 3; says = 1 ∷ replicate 3 0xEE }
    ∷ record { question = check case_a []; says = 13 ∷ [] }
    ∷ record { question = check case_a (evidence_a ++ (0 ∷ [])); says = 13 ∷ [] }
    ∷ record { question = check case_a (set evidence_a 0 0x12); says = 13 ∷ [] }
    ∷ record { question = check case_a (set evidence_a 16 2); says = 14 ∷ [] }
    ∷ record { question = check case_a (set evidence_a 20 29); says = 15 ∷ [] }
    ∷ record { question = check case_a (set evidence_a 0 0x10); says = 16 ∷ [] }
    ∷ record { question = show case_a evidence_a; says = drop 30 evidence_a }
    ∷ record { question = show case_c (evidence_of case_c); says = [] }
    -- D has two least candidates, which cut one endpoint each: evidence that names the higher one passes too
    ∷ record { question = check case_d (set (evidence_of case_d) 1 1); says = 0 ∷ [] }
    -- ties (02, C-12): the higher block that cuts fewer endpoints goes, also where the one more weighs 0, and evidence that names the other gets
    -- 16; where both cut as many the lower one goes, and evidence that names either passes
    ∷ record { question = choose case_fewer (replicate 31 0) 9; says = 0 ∷ 31 ∷ 0x11 ∷ 1 ∷ 2 ∷ 0 ∷ 0 ∷ 60 ∷ 0 ∷ 0 ∷ 30 ∷ [] }
    ∷ record { question = check case_fewer (evidence_of case_fewer); says = 0 ∷ [] }
    ∷ record { question = check case_fewer (set (evidence_of case_fewer) 1 0); says = 16 ∷ [] }
    ∷ record { question = choose case_zero (replicate 31 0) 9; says = 0 ∷ 31 ∷ 0x11 ∷ 1 ∷ 2 ∷ 0 ∷ 0 ∷ 60 ∷ 0 ∷ 0 ∷ 30 ∷ [] }
    ∷ record { question = check case_zero (evidence_of case_zero); says = 0 ∷ [] }
    ∷ record { question = check case_zero (set (evidence_of case_zero) 1 0); says = 16 ∷ [] }
    ∷ record { question = choose case_equal (replicate 31 0) 9; says = 0 ∷ 31 ∷ 0x11 ∷ 0 ∷ 2 ∷ 0 ∷ 0 ∷ 60 ∷ 0 ∷ 0 ∷ 30 ∷ [] }
    ∷ record { question = check case_equal (evidence_of case_equal); says = 0 ∷ [] }
    ∷ record { question = check case_equal (set (evidence_of case_equal) 1 1); says = 0 ∷ [] }
    -- no tie: endpoint 3 weighs 31, or is protected, and block 0 goes, though it cuts two
    ∷ record { question = choose (set case_fewer 13 31) (replicate 31 0) 9; says = 0 ∷ 31 ∷ 0x11 ∷ 0 ∷ 2 ∷ 0 ∷ 0 ∷ 61 ∷ 0 ∷ 0 ∷ 30 ∷ [] }
    ∷ record { question = choose (set case_fewer 14 0x80) (replicate 31 0) 9; says = 0 ∷ 31 ∷ 0x11 ∷ 0 ∷ 2 ∷ 0 ∷ 0 ∷ 60 ∷ 0 ∷ 0 ∷ 30 ∷ [] }
    ∷ record { question = check (set case_fewer 14 0x80) (set (evidence_of (set case_fewer 14 0x80)) 1 1); says = 16 ∷ [] }
    -- two blocks of 15 slots (02, C-18): both feeders of an endpoint go with their block, and endpoint 1 is protected, so block 1 goes; slots 16 to 30
    -- are then recoverable. The lists give the same bytes, and a block of 16 is refused
    ∷ record { question = weigh case_wide 0; says = 0 ∷ 42 ∷ 30 ∷ 1 ∷ [] }
    ∷ record { question = weigh case_wide 1; says = 0 ∷ 42 ∷ 12 ∷ 0 ∷ [] }
    ∷ record { question = weigh case_wide 2; says = 8 ∷ [] }
    ∷ record { question = choose case_wide (replicate 199 0) 9; says = 0 ∷ 199 ∷ 0x11 ∷ 1 ∷ 2 ∷ 0 ∷ 0 ∷ 42 ∷ 0 ∷ 0 ∷ 12 ∷ [] }
    ∷ record { question = check case_wide (evidence_of case_wide); says = 0 ∷ [] }
    ∷ record { question = list case_wide; says = lines_a }
    ∷ record { question = act Evict case_wide 0; says = 10 ∷ case_wide }
    ∷ record { question = act Evict case_wide 1; says = 0 ∷ evicted_wide }
    ∷ record { question = act Reload evicted_wide 1; says = 0 ∷ case_wide }
    ∷ record { question = write (lists_in case_wide) (replicate 39 0xFF); says = 0 ∷ 39 ∷ case_wide }
    ∷ record { question = write (handed 1 15 0 (replicate 15 0) (replicate 15 false) [] [] [] []) (replicate 13 0xFF); says = 0 ∷ 13 ∷ slots_only 0x1F 15 6 }
    ∷ record { question = write (handed 1 16 0 (replicate 16 0) (replicate 16 false) [] [] [] []) (replicate 13 0xEE); says = 3 ∷ replicate 13 0xEE }
    -- what the program prints for A, for G ("served 0", "choose none") and for A and one byte 00 ("refused 7")
    ∷ record { question = list case_a; says = lines_a }
    ∷ record { question = list case_g; says = 115 ∷ 101 ∷ 114 ∷ 118 ∷ 101 ∷ 100 ∷ 32 ∷ 48 ∷ 10 ∷ 99 ∷ 104 ∷ 111 ∷ 111 ∷ 115 ∷ 101 ∷ 32 ∷ 110 ∷ 111 ∷ 110 ∷ 101 ∷ 10 ∷ [] }
    ∷ record { question = list (case_a ++ (0 ∷ [])); says = 114 ∷ 101 ∷ 102 ∷ 117 ∷ 115 ∷ 101 ∷ 100 ∷ 32 ∷ 55 ∷ 10 ∷ [] }
    -- acts: K is A after evicting block 1; the refusals leave all bytes as they were
    ∷ record { question = act Evict case_a 1; says = 0 ∷ case_k }
    ∷ record { question = act Evict case_a 0; says = 10 ∷ case_a }
    ∷ record { question = act Free case_a 0; says = 10 ∷ case_a }
    ∷ record { question = act Free case_a 1; says = 0 ∷ freed_a }
    ∷ record { question = act Free (act_bytes Free case_a 1) 1; says = 11 ∷ freed_a }
    ∷ record { question = act Free case_k 1; says = 0 ∷ freed_a }
    ∷ record { question = act Reload case_a 0; says = 11 ∷ case_a }
    ∷ record { question = act Reload case_k 1; says = 12 ∷ case_k }
    ∷ record { question = act Reload (set case_k 2 4) 1; says = 0 ∷ set case_a 2 4 }
    ∷ record { question = act Evict case_k 1; says = 11 ∷ case_k }
    ∷ record { question = act Evict case_a 2; says = 8 ∷ case_a }
    ∷ record { question = act Evict (set case_a 0 0x32) 0; says = 2 ∷ set case_a 0 0x32 }
    -- free over held or recoverable slots (02, C-19). In G nothing is served, and endpoint 1, which is protected, has chains over block 0 alone, which is
    -- recoverable: freeing it is refused, where evicting it would change nothing. Block 1 goes, whose endpoint is not protected, and so does block 0
    -- where endpoint 1 is not. The first again in edition 2, with κ 0, with weight 0 (J), and with slot 2 alone recoverable, beside a freed one
    ∷ record { question = act Free case_g 0; says = 10 ∷ case_g }
    ∷ record { question = act Evict case_g 0; says = 11 ∷ case_g }
    ∷ record { question = act Free case_g 1; says = 0 ∷ with_slots 0x6E 0xD0 case_g }
    ∷ record { question = act Free (set case_g 10 0xE0) 0; says = 0 ∷ with_slots 0xB5 0xB0 (set case_g 10 0xE0) }
    ∷ record { question = act Free (set (set case_second 8 0x6D) 9 0xB0) 0; says = 10 ∷ set (set case_second 8 0x6D) 9 0xB0 }
    ∷ record { question = act Free (set case_g 2 0) 0; says = 10 ∷ set case_g 2 0 }
    ∷ record { question = act Free (with_slots 0x6D 0xB0 case_j) 0; says = 10 ∷ with_slots 0x6D 0xB0 case_j }
    ∷ record { question = act Free (with_slots 0xAC 0x90 case_a) 0; says = 10 ∷ with_slots 0xAC 0x90 case_a }
    -- both protected: neither goes, in C; in F, without link 0-4, endpoint 2 has no chain, and block 1 goes
    ∷ record { question = act Free (with_slots 0x6D 0xB0 case_c) 1; says = 10 ∷ with_slots 0x6D 0xB0 case_c }
    ∷ record { question = act Free (with_slots 0x6D 0xB0 case_f) 1; says = 0 ∷ with_slots 0x6E 0xD0 case_f }
    -- a recoverable chain besides the one that serves now: the block that serves stays, and the other goes; both where endpoint 1 is not protected,
    -- and the first where the other is held. Over a freed slot there is no chain, and the first block stays, held or recoverable
    ∷ record { question = act Free chain_besides 0; says = 10 ∷ chain_besides }
    ∷ record { question = act Evict chain_besides 0; says = 10 ∷ chain_besides }
    ∷ record { question = act Free chain_besides 1; says = 0 ∷ with_slots 0x26 0xD0 chain_besides }
    ∷ record { question = act Free (set chain_besides 10 0xE0) 0; says = 0 ∷ with_slots 0xB5 0xB0 (set chain_besides 10 0xE0) }
    ∷ record { question = act Free (with_slots 0x24 0x90 chain_besides) 0; says = 0 ∷ with_slots 0xB4 0x90 chain_besides }
    ∷ record { question = act Free (with_slots 0x26 0xD0 chain_besides) 0; says = 10 ∷ with_slots 0x26 0xD0 chain_besides }
    ∷ record { question = act Free (with_slots 0x6E 0xD0 chain_besides) 0; says = 10 ∷ with_slots 0x6E 0xD0 chain_besides }
    -- both recoverable: either goes, but not both
    ∷ record { question = act Free (with_slots 0x6D 0xB0 chain_besides) 0; says = 0 ∷ with_slots 0xB5 0xB0 chain_besides }
    ∷ record { question = act Free (with_slots 0x6D 0xB0 chain_besides) 1; says = 0 ∷ with_slots 0x6E 0xD0 chain_besides }
    ∷ record { question = act Free (with_slots 0xB5 0xB0 chain_besides) 1; says = 10 ∷ with_slots 0xB5 0xB0 chain_besides }
    -- a chain over a held and a recoverable slot: it serves nothing now, so that evicting block 0 is done; freeing either block takes it away
    ∷ record { question = act Evict chain_over_both 0; says = 0 ∷ with_slots 0x6D 0xB0 chain_over_both }
    ∷ record { question = act Free chain_over_both 0; says = 10 ∷ chain_over_both }
    ∷ record { question = act Free chain_over_both 1; says = 10 ∷ chain_over_both }
    -- lists of calls (02, C-15): six on A with κ 4, of which evicting block 0 (10) and reloading what is freed (11) are refused, after each of
    -- them; all six on A, where reloading block 1 is refused (12) and evicting it again then too (11); and on A's network in edition 2
    ∷ record { question = calls room_a (take 1 calls_a); says = 0 ∷ 30 ∷ set case_k 2 4 }
    ∷ record { question = calls room_a (take 2 calls_a); says = 0 ∷ 0 ∷ 42 ∷ room_a }
    ∷ record { question = calls room_a (take 3 calls_a); says = 0 ∷ 0 ∷ 10 ∷ 42 ∷ room_a }
    ∷ record { question = calls room_a (take 4 calls_a); says = 0 ∷ 0 ∷ 10 ∷ 0 ∷ 30 ∷ set case_k 2 4 }
    ∷ record { question = calls room_a (take 5 calls_a); says = 0 ∷ 0 ∷ 10 ∷ 0 ∷ 0 ∷ 30 ∷ set freed_a 2 4 }
    ∷ record { question = calls room_a calls_a; says = 0 ∷ 0 ∷ 10 ∷ 0 ∷ 0 ∷ 11 ∷ 30 ∷ set freed_a 2 4 }
    ∷ record { question = calls case_a calls_a; says = 0 ∷ 12 ∷ 10 ∷ 11 ∷ 0 ∷ 11 ∷ 30 ∷ freed_a }
    ∷ record { question = calls case_second calls_a; says = 0 ∷ 12 ∷ 10 ∷ 11 ∷ 0 ∷ 11 ∷ 30 ∷ freed_second }
    -- and four on G with κ 4, where nothing is served: block 0, which may not be freed (10) and has nothing to evict (11), comes back at the end
    ∷ record { question = calls (set case_g 2 4) calls_g; says = 10 ∷ 11 ∷ 0 ∷ 0 ∷ 30 ∷ set freed_a 2 4 }
    -- write: A's lists give A's bytes, fill bits included; more bytes stay, and a buffer that is a byte short is as it was. The lists of other
    -- pictures give theirs
    ∷ record { question = write (lists_a 1) (replicate 27 0xFF); says = 0 ∷ 27 ∷ case_a }
    ∷ record { question = write (lists_a 1) (replicate 30 0xEE); says = 0 ∷ 27 ∷ (case_a ++ replicate 3 0xEE) }
    ∷ record { question = write (lists_a 1) (replicate 26 0xEE); says = 9 ∷ replicate 26 0xEE }
    ∷ record { question = write (lists_in case_f) (replicate 25 0xFF); says = 0 ∷ 25 ∷ case_f }
    ∷ record { question = write (lists_in case_k) (replicate 27 0xFF); says = 0 ∷ 27 ∷ case_k }
    ∷ record { question = write (lists_in case_m) (replicate 17 0xFF); says = 0 ∷ 17 ∷ case_m }
    -- and the lists of what the reader refuses get the reader's number: β 3 with n 4, D 201, slot 1 state 3, a link 0 to 5, a service link's
    -- location 5 or endpoint 0, both of one, and both of two; a short buffer comes after them
    ∷ record { question = write (lists_in (set case_a 0 0x13)) (replicate 27 0xEE); says = 3 ∷ replicate 27 0xEE }
    ∷ record { question = write (lists_in (set case_a 3 201)) (replicate 27 0xEE); says = 4 ∷ replicate 27 0xEE }
    ∷ record { question = write (lists_in (set case_a 7 0xE4)) (replicate 27 0xEE); says = 5 ∷ replicate 27 0xEE }
    ∷ record { question = write (lists_in (set case_a 14 0x14)) (replicate 27 0xEE); says = 6 ∷ replicate 27 0xEE }
    ∷ record { question = write (lists_in (set case_a 21 0x14)) (replicate 27 0xEE); says = 17 ∷ replicate 27 0xEE }
    ∷ record { question = write (lists_in (set case_a 22 0x00)) (replicate 27 0xEE); says = 18 ∷ replicate 27 0xEE }
    ∷ record { question = write (lists_in (set (set case_a 21 0x14) 22 0x00)) (replicate 27 0xEE); says = 17 ∷ replicate 27 0xEE }
    ∷ record { question = write (lists_in (set (set case_a 22 0x00) 23 0x14)) (replicate 27 0xEE); says = 18 ∷ replicate 27 0xEE }
    ∷ record { question = write (lists_in (set case_a 22 0x00)) (replicate 26 0xEE); says = 18 ∷ replicate 26 0xEE }
    -- columns of unequal length, no lists at all, and values that no field has room for
    ∷ record { question = write (lists_with 1 (true ∷ true ∷ true ∷ []) (true ∷ false ∷ [])) (replicate 27 0xEE); says = 3 ∷ replicate 27 0xEE }
    ∷ record { question = write (lists_with 1 (true ∷ true ∷ true ∷ true ∷ []) (true ∷ false ∷ true ∷ [])) (replicate 27 0xEE); says = 4 ∷ replicate 27 0xEE }
    ∷ record { question = write (handed 1 1 0 [] [] [] [] [] []) (replicate 7 0xEE); says = 3 ∷ replicate 7 0xEE }
    ∷ record { question = write (handed 1 0x11 0 (0 ∷ []) (true ∷ []) [] [] [] []) (replicate 8 0xEE); says = 3 ∷ replicate 8 0xEE }
    ∷ record { question = write (handed 1 1 0 (4 ∷ []) (true ∷ []) [] [] [] []) (replicate 8 0xEE); says = 5 ∷ replicate 8 0xEE }
    ∷ record { question = write (handed 1 1 0 (0 ∷ []) (true ∷ []) [] [] ((0x100 ∷ 0 ∷ []) ∷ []) []) (replicate 10 0xEE); says = 6 ∷ replicate 10 0xEE }
    ∷ record { question = write (handed 1 1 0 (0 ∷ []) (true ∷ []) (5 ∷ []) (true ∷ []) [] ((0x101 ∷ 1 ∷ []) ∷ [])) (replicate 12 0xEE); says = 17 ∷ replicate 12 0xEE }
    ∷ record { question = write (handed 1 1 0 (0 ∷ []) (true ∷ []) (5 ∷ []) (true ∷ []) [] ((1 ∷ 0x101 ∷ []) ∷ [])) (replicate 12 0xEE); says = 18 ∷ replicate 12 0xEE }
    -- a short buffer comes last
    ∷ record { question = write (handed 1 1 0 (3 ∷ []) (true ∷ []) [] [] [] []) []; says = 5 ∷ [] }
    ∷ record { question = write (handed 1 1 0 (0 ∷ []) (true ∷ []) [] [] [] []) []; says = 9 ∷ [] }
    -- edition 2 (02, C-21): A's network is accepted. A with first byte 22 hex, 01's example for 2, is now read by edition 2, which finds it too
    -- short for 1024 links (1)
    ∷ record { question = read case_second; says = 0 ∷ 2 ∷ 2 ∷ 4 ∷ 2 ∷ 2 ∷ 4 ∷ 3 ∷ [] }
    ∷ record { question = read (set case_a 0 0x22); says = 1 ∷ [] }
    -- under 7 bytes is 1 whatever the edition, here 2 and 3; then 2 for edition 3 with 7 bytes, and for 0 and 15; then 7 bytes of edition 2 are
    -- 1, also where n is 0; 8 bytes are a header, and then n 0 is 3, and four slots for which there are no bytes are 1
    ∷ record { question = read (take 6 case_second); says = 1 ∷ [] }
    ∷ record { question = read (set (take 6 case_second) 0 0x32); says = 1 ∷ [] }
    ∷ record { question = read (set (take 7 case_second) 0 0x32); says = 2 ∷ [] }
    ∷ record { question = read (set case_second 0 0x02); says = 2 ∷ [] }
    ∷ record { question = read (set case_second 0 0xF2); says = 2 ∷ [] }
    ∷ record { question = read (take 7 case_second); says = 1 ∷ [] }
    ∷ record { question = read (take 7 (set case_second 2 0x00)); says = 1 ∷ [] }
    ∷ record { question = read (take 8 (set case_second 2 0x00)); says = 3 ∷ [] }
    ∷ record { question = read (take 8 case_second); says = 1 ∷ [] }
    -- sizes: accepted n 320 with β 8, n 300 with β 5, 60 blocks, and n 242 with β 11, which edition 1 refuses; refused n 0, n 322 with β 14,
    -- 23 blocks, n 320 with β 5, 64 blocks, and β 0. κ 4095 is accepted
    ∷ record { question = read (slots_only_second 0x28 320 120); says = 0 ∷ 2 ∷ 8 ∷ 320 ∷ 0 ∷ 0 ∷ 0 ∷ 0 ∷ [] }
    ∷ record { question = read (slots_only_second 0x25 300 113); says = 0 ∷ 2 ∷ 5 ∷ 300 ∷ 0 ∷ 0 ∷ 0 ∷ 0 ∷ [] }
    ∷ record { question = read (slots_only_second 0x2B 242 91); says = 0 ∷ 2 ∷ 11 ∷ 242 ∷ 0 ∷ 0 ∷ 0 ∷ 0 ∷ [] }
    ∷ record { question = read (slots_only 0x1B 242 91); says = 3 ∷ [] }
    ∷ record { question = read (set case_second 2 0x00); says = 3 ∷ [] }
    ∷ record { question = read (slots_only_second 0x2E 322 121); says = 3 ∷ [] }
    ∷ record { question = read (slots_only_second 0x25 320 120); says = 3 ∷ [] }
    ∷ record { question = read (set case_second 0 0x20); says = 3 ∷ [] }
    ∷ record { question = read (set (set case_second 2 0x4F) 3 0xFF); says = 0 ∷ 2 ∷ 2 ∷ 4 ∷ 4095 ∷ 2 ∷ 4 ∷ 3 ∷ [] }
    -- D 201 (4), a byte too few (1), slot 1 state 3 (5), the first link to 5 and to 257 (6), the first service link's location 5 and 257 (17), its
    -- endpoint 0 (18) and the last one's 3 (18), the first and the last fill bit set, and a byte too many (7)
    ∷ record { question = read (set case_second 4 201); says = 4 ∷ [] }
    ∷ record { question = read (take 33 case_second); says = 1 ∷ [] }
    ∷ record { question = read (set case_second 8 0xE4); says = 5 ∷ [] }
    ∷ record { question = read (set case_second 16 0x14); says = 6 ∷ [] }
    ∷ record { question = read (set case_second 15 0x04); says = 6 ∷ [] }
    ∷ record { question = read (set case_second 26 0x01); says = 17 ∷ [] }
    ∷ record { question = read (set case_second 26 0x40); says = 17 ∷ [] }
    ∷ record { question = read (set case_second 28 0x00); says = 18 ∷ [] }
    ∷ record { question = read (set case_second 33 0xC0); says = 18 ∷ [] }
    ∷ record { question = read (set case_second 33 0xA0); says = 7 ∷ [] }
    ∷ record { question = read (set case_second 33 0x81); says = 7 ∷ [] }
    ∷ record { question = read (case_second ++ (0 ∷ [])); says = 7 ∷ [] }
    -- a link among 320 slots: 320-320 is accepted; 0-321 and 321-0 are not (6)
    ∷ record { question = read (one_link (0x14 ∷ 0x01 ∷ 0x40 ∷ [])); says = 0 ∷ 2 ∷ 8 ∷ 320 ∷ 0 ∷ 0 ∷ 1 ∷ 0 ∷ [] }
    ∷ record { question = read (one_link (0x00 ∷ 0x01 ∷ 0x41 ∷ [])); says = 6 ∷ [] }
    ∷ record { question = read (one_link (0x14 ∷ 0x10 ∷ 0x00 ∷ [])); says = 6 ∷ [] }
    -- weigh, as for A
    ∷ record { question = weigh case_second 0; says = 0 ∷ 42 ∷ 30 ∷ 1 ∷ [] }
    ∷ record { question = weigh case_second 1; says = 0 ∷ 42 ∷ 12 ∷ 0 ∷ [] }
    ∷ record { question = weigh case_second 2; says = 8 ∷ [] }
    -- choose: the evidence in full, also where the buffer has more bytes; a buffer that is a byte short; and without near marks "none", 21 bytes
    ∷ record { question = choose case_second (replicate 55 0) 55; says = 0 ∷ 55 ∷ evidence_second }
    ∷ record { question = choose case_second (replicate 60 0xEE) 60; says = 0 ∷ 55 ∷ (evidence_second ++ replicate 5 0xEE) }
    ∷ record { question = choose case_second (replicate 54 0xEE) 54; says = 9 ∷ replicate 54 0xEE }
    ∷ record { question = choose (set (set case_second 8 0x00) 9 0x00) (replicate 21 0) 9; says = 0 ∷ 21 ∷ 0x20 ∷ 0 ∷ 0 ∷ 0 ∷ 0 ∷ 42 ∷ 0 ∷ 0 ∷ 0 ∷ [] }
    -- check: it passes; evidence of the other edition, either way, and evidence that says another one, 1 and 3, or 2 for A, gets 13
    ∷ record { question = check case_second evidence_second; says = 0 ∷ [] }
    ∷ record { question = check case_second evidence_a; says = 13 ∷ [] }
    ∷ record { question = check case_a evidence_second; says = 13 ∷ [] }
    ∷ record { question = check case_second (set evidence_second 0 0x11); says = 13 ∷ [] }
    ∷ record { question = check case_second (set evidence_second 0 0x31); says = 13 ∷ [] }
    ∷ record { question = check case_a (set evidence_a 0 0x21); says = 13 ∷ [] }
    -- slot 4's first depth 2 and 257, slot 3's first parent 257 (14); block 0 loss 29 (15); verdict 0 (16)
    ∷ record { question = check case_second (set evidence_second 20 2); says = 14 ∷ [] }
    ∷ record { question = check case_second (set evidence_second 19 0x01); says = 14 ∷ [] }
    ∷ record { question = check case_second (set evidence_second 15 0x10); says = 14 ∷ [] }
    ∷ record { question = check case_second (set evidence_second 24 29); says = 15 ∷ [] }
    ∷ record { question = check case_second (set evidence_second 0 0x20); says = 16 ∷ [] }
    -- show: block 1's section, 17 bytes, and nothing of A's evidence; and what the program prints, for edition 3 "refused 2"
    ∷ record { question = show case_second evidence_second; says = drop 38 evidence_second }
    ∷ record { question = show case_second evidence_a; says = [] }
    ∷ record { question = list case_second; says = lines_a }
    ∷ record { question = list (set case_second 0 0x32); says = 114 ∷ 101 ∷ 102 ∷ 117 ∷ 115 ∷ 101 ∷ 100 ∷ 32 ∷ 50 ∷ 10 ∷ [] }
    -- acts, as on A and K; block 1 comes back where κ is 4 or 258
    ∷ record { question = act Evict case_second 0; says = 10 ∷ case_second }
    ∷ record { question = act Evict case_second 1; says = 0 ∷ evicted_second }
    ∷ record { question = act Free case_second 1; says = 0 ∷ freed_second }
    ∷ record { question = act Reload case_second 0; says = 11 ∷ case_second }
    ∷ record { question = act Reload evicted_second 1; says = 12 ∷ evicted_second }
    ∷ record { question = act Reload (set evicted_second 3 4) 1; says = 0 ∷ set case_second 3 4 }
    ∷ record { question = act Reload (set evicted_second 2 0x41) 1; says = 0 ∷ set case_second 2 0x41 }
    -- locations beyond a byte: block 17 is the last, and goes. Slot 270 has parent 256 in the first forest, which keeps its rules, so that served
    -- weight 43 is the first fault (15). With block 17 evicted slots 256 and 270 are recoverable; and the lists give the same bytes
    ∷ record { question = read case_far; says = 0 ∷ 2 ∷ 15 ∷ 270 ∷ 3 ∷ 2 ∷ 3 ∷ 2 ∷ [] }
    ∷ record { question = weigh case_far 18; says = 8 ∷ [] }
    ∷ record { question = list case_far; says = lines_far }
    ∷ record { question = check case_far (set evidence_far 5 43); says = 15 ∷ [] }
    ∷ record { question = act Evict case_far 17; says = 0 ∷ set (set case_far 103 0x0B) 109 0xC0 }
    ∷ record { question = write (lists_in case_far) (replicate 128 0xFF); says = 0 ∷ 128 ∷ case_far }
    -- write: A's lists in edition 2 give these bytes, and so do the lists that the bytes say; a buffer that is a byte short is as it was
    ∷ record { question = write (lists_a 2) (replicate 34 0xFF); says = 0 ∷ 34 ∷ case_second }
    ∷ record { question = write (lists_in case_second) (replicate 34 0xFF); says = 0 ∷ 34 ∷ case_second }
    ∷ record { question = write (lists_in case_second) (replicate 37 0xEE); says = 0 ∷ 34 ∷ (case_second ++ replicate 3 0xEE) }
    ∷ record { question = write (lists_in case_second) (replicate 33 0xEE); says = 9 ∷ replicate 33 0xEE }
    -- n 320 with β 8 is written; n 242 with β 11 is refused in edition 1
    ∷ record { question = write (handed 2 8 0 (replicate 320 0) (replicate 320 false) [] [] [] []) (replicate 128 0xFF); says = 0 ∷ 128 ∷ slots_only_second 0x28 320 120 }
    ∷ record { question = write (handed 1 11 0 (replicate 242 0) (replicate 242 false) [] [] [] []) (replicate 98 0xEE); says = 3 ∷ replicate 98 0xEE }
    -- κ 255 and 300 in edition 1, κ 300, 4095 and 4096 in edition 2: one that is too wide gets 3, before 4 and before a short buffer
    ∷ record { question = write (one_slot 1 255) (replicate 8 0xFF); says = 0 ∷ 8 ∷ 0x11 ∷ 0x01 ∷ 0xFF ∷ 0x00 ∷ 0x00 ∷ 0x00 ∷ 0x00 ∷ 0x20 ∷ [] }
    ∷ record { question = write (one_slot 1 300) (replicate 9 0xEE); says = 3 ∷ replicate 9 0xEE }
    ∷ record { question = write (one_slot 2 300) (replicate 9 0xFF); says = 0 ∷ 9 ∷ 0x21 ∷ 0x00 ∷ 0x11 ∷ 0x2C ∷ 0x00 ∷ 0x00 ∷ 0x00 ∷ 0x00 ∷ 0x20 ∷ [] }
    ∷ record { question = write (one_slot 2 4095) (replicate 9 0xFF); says = 0 ∷ 9 ∷ 0x21 ∷ 0x00 ∷ 0x1F ∷ 0xFF ∷ 0x00 ∷ 0x00 ∷ 0x00 ∷ 0x00 ∷ 0x20 ∷ [] }
    ∷ record { question = write (one_slot 2 4096) (replicate 9 0xEE); says = 3 ∷ replicate 9 0xEE }
    ∷ record { question = write (one_slot 2 4096) []; says = 3 ∷ [] }
    ∷ record { question = write (handed 1 1 256 (0 ∷ []) (true ∷ []) (5 ∷ []) [] [] []) (replicate 9 0xEE); says = 3 ∷ replicate 9 0xEE }
    -- ends of links that 12 bits have no room for
    ∷ record { question = write (handed 2 1 0 (0 ∷ []) (true ∷ []) [] [] ((0x1000 ∷ 0 ∷ []) ∷ []) []) (replicate 12 0xEE); says = 6 ∷ replicate 12 0xEE }
    ∷ record { question = write (handed 2 1 0 (0 ∷ []) (true ∷ []) (5 ∷ []) (true ∷ []) [] ((0x1001 ∷ 1 ∷ []) ∷ [])) (replicate 14 0xEE); says = 17 ∷ replicate 14 0xEE }
    ∷ record { question = write (handed 2 1 0 (0 ∷ []) (true ∷ []) (5 ∷ []) (true ∷ []) [] ((1 ∷ 0x101 ∷ []) ∷ [])) (replicate 14 0xEE); says = 18 ∷ replicate 14 0xEE }
    -- editions 0, 3 and 258 get 2 before all else; with the same lists the two that there are get 3
    ∷ record { question = write (all_wrong 0) []; says = 2 ∷ [] }
    ∷ record { question = write (all_wrong 3) []; says = 2 ∷ [] }
    ∷ record { question = write (all_wrong 258) []; says = 2 ∷ [] }
    ∷ record { question = write (all_wrong 1) []; says = 3 ∷ [] }
    ∷ record { question = write (all_wrong 2) []; says = 3 ∷ [] }
    -- draws of SplitMix64 (02, C-13): the first five of a seed, and the last that the largest picture takes
    ∷ record { question = drawn 1234567 1; says = 6457827717110365317 ∷ [] }
    ∷ record { question = drawn 1234567 2; says = 3203168211198807973 ∷ [] }
    ∷ record { question = drawn 1234567 3; says = 9817491932198370423 ∷ [] }
    ∷ record { question = drawn 1234567 4; says = 4593380528125082431 ∷ [] }
    ∷ record { question = drawn 1234567 5; says = 16408922859458223821 ∷ [] }
    ∷ record { question = drawn 1234567 8880; says = 7266125905760604739 ∷ [] }
    -- generate: A's sizes from seed 1, which is read with κ 4; more bytes stay, and a buffer that is a byte short is as it was
    ∷ record { question = generate 1 (asked_header 2 2 2 4 3) (replicate 27 0xFF); says = 0 ∷ 27 ∷ drawn_a }
    ∷ record { question = read drawn_a; says = 0 ∷ 1 ∷ 2 ∷ 4 ∷ 4 ∷ 2 ∷ 4 ∷ 3 ∷ [] }
    ∷ record { question = generate 1 (asked_header 2 2 2 4 3) (replicate 30 0xEE); says = 0 ∷ 27 ∷ (drawn_a ++ replicate 3 0xEE) }
    ∷ record { question = generate 1 (asked_header 2 2 2 4 3) (replicate 26 0xEE); says = 9 ∷ replicate 26 0xEE }
    -- the least of all, from seed 0; β 15, from the largest seed; 60 blocks, with one endpoint
    ∷ record { question = generate 0 (asked_header 1 1 0 0 0) (replicate 8 0xFF); says = 0 ∷ 8 ∷ 0x11 ∷ 0x01 ∷ 0x01 ∷ 0x00 ∷ 0x00 ∷ 0x00 ∷ 0x00 ∷ 0x40 ∷ [] }
    ∷ record { question = generate 18446744073709551615 (asked_header 15 1 0 0 0) (replicate 13 0xFF); says = 0 ∷ 13 ∷ 0x1F ∷ 0x0F ∷ 0x0F ∷ 0x00 ∷ 0x00 ∷ 0x00 ∷ 0x00 ∷ 0xA8 ∷ 0xA0 ∷ 0xD2 ∷ 0x44 ∷ 0x81 ∷ 0x68 ∷ [] }
    ∷ record { question = generate 7 (asked_header 1 60 1 0 0) (replicate 32 0xFF); says = 0 ∷ 32 ∷ 0x11 ∷ 0x3C ∷ 0x3C ∷ 0x01 ∷ 0x00 ∷ 0x00 ∷ 0x00 ∷ 0x05 ∷ 0xAA ∷ 0x80 ∷ 0x71 ∷ 0xDA ∷ 0x4A ∷ 0x06 ∷ 0xB6 ∷ 0x80 ∷ 0x02 ∷ 0x33 ∷ 0x02 ∷ 0x25 ∷ 0x36 ∷ 0x43 ∷ 0x90 ∷ 0x93 ∷ 0x44 ∷ 0x15 ∷ 0x90 ∷ 0xD2 ∷ 0xA6 ∷ 0x39 ∷ 0x59 ∷ 0xC8 ∷ [] }
    -- β 0 and 16, 0 blocks and 61, n 255 (3); D 201, L 2001, S 2001, and S 1 with D 0 (4); 3 before 4, and both before a short buffer
    ∷ record { question = generate 1 (asked_header 0 1 0 0 0) (replicate 9 0xEE); says = 3 ∷ replicate 9 0xEE }
    ∷ record { question = generate 1 (asked_header 16 1 0 0 0) (replicate 9 0xEE); says = 3 ∷ replicate 9 0xEE }
    ∷ record { question = generate 1 (asked_header 1 0 0 0 0) (replicate 9 0xEE); says = 3 ∷ replicate 9 0xEE }
    ∷ record { question = generate 1 (asked_header 1 61 0 0 0) (replicate 9 0xEE); says = 3 ∷ replicate 9 0xEE }
    ∷ record { question = generate 1 (asked_header 15 17 0 0 0) (replicate 9 0xEE); says = 3 ∷ replicate 9 0xEE }
    ∷ record { question = generate 1 (asked_header 1 1 201 0 0) (replicate 9 0xEE); says = 4 ∷ replicate 9 0xEE }
    ∷ record { question = generate 1 (asked_header 1 1 0 2001 0) (replicate 9 0xEE); says = 4 ∷ replicate 9 0xEE }
    ∷ record { question = generate 1 (asked_header 1 1 1 0 2001) (replicate 9 0xEE); says = 4 ∷ replicate 9 0xEE }
    ∷ record { question = generate 1 (asked_header 1 1 0 0 1) (replicate 9 0xEE); says = 4 ∷ replicate 9 0xEE }
    ∷ record { question = generate 1 (asked_header 0 1 201 0 0) []; says = 3 ∷ [] }
    ∷ record { question = generate 1 (asked_header 1 1 0 0 1) []; says = 4 ∷ [] }
    ∷ record { question = generate 1 (asked_header 1 1 0 0 0) []; says = 9 ∷ [] }
    -- the largest numbers
    ∷ record { question = generate 18446744073709551615 (asked_header 4294967295 4294967295 4294967295 4294967295 4294967295) (replicate 9 0xEE); says = 3 ∷ replicate 9 0xEE }
    ∷ record { question = generate 18446744073709551615 (asked_header 15 16 4294967295 4294967295 4294967295) (replicate 9 0xEE); says = 4 ∷ replicate 9 0xEE }
    -- price (02, C-16): a record adds its weight where one block feeds its endpoint and the origin does not. Block 1 is no candidate
    ∷ record { question = price case_flat flat_records; says = 0 ∷ sixty (358 ∷ 1000 ∷ 20 ∷ []) }
    ∷ record { question = price flat_second flat_records; says = 0 ∷ sixty (358 ∷ 1000 ∷ 20 ∷ []) }
    ∷ record { question = price case_flat []; says = 0 ∷ sixty [] }
    -- slot 4 held: it feeds endpoint 5. Slot 2 freed: block 1 alone feeds endpoint 2, and slot 1 still feeds endpoint 1. All but slot 6 freed
    ∷ record { question = price (set case_flat 8 0x00) flat_records; says = 0 ∷ sixty (358 ∷ 4000 ∷ 20 ∷ []) }
    ∷ record { question = price (set case_flat 7 0x34) flat_records; says = 0 ∷ sixty (358 ∷ 1200 ∷ 20 ∷ []) }
    ∷ record { question = price (set (set case_flat 7 0xB6) 8 0x48) flat_records; says = 0 ∷ sixty (0 ∷ 0 ∷ 20 ∷ []) }
    -- link 0-1 twice
    ∷ record { question = price (set case_flat 33 1) flat_records; says = 0 ∷ sixty (358 ∷ 1000 ∷ 20 ∷ []) }
    -- 19: case A, whatever the states of its slots (G); and link 4-0 for 0-0, from a slot that is not held. 6, 17, 18 and 7 come before it
    ∷ record { question = price case_a []; says = 19 ∷ [] }
    ∷ record { question = price case_g []; says = 19 ∷ [] }
    ∷ record { question = price (set case_flat 32 4) flat_records; says = 19 ∷ [] }
    ∷ record { question = price (set (set case_flat 32 4) 33 7) flat_records; says = 6 ∷ [] }
    ∷ record { question = price (set (set case_flat 32 4) 54 7) flat_records; says = 17 ∷ [] }
    ∷ record { question = price (set (set case_flat 32 4) 55 7) flat_records; says = 18 ∷ [] }
    ∷ record { question = price (set case_flat 32 4 ++ (0 ∷ [])) flat_records; says = 7 ∷ [] }
    ∷ record { question = price case_second []; says = 19 ∷ [] }
    ∷ record { question = price [] (0 ∷ []); says = 1 ∷ [] }
    -- 20: one byte and two bytes more, after 19 and before 21
    ∷ record { question = price case_flat (flat_records ++ (1 ∷ [])); says = 20 ∷ [] }
    ∷ record { question = price case_flat (flat_records ++ (1 ∷ 0 ∷ [])); says = 20 ∷ [] }
    ∷ record { question = price (set case_flat 32 4) (0 ∷ []); says = 19 ∷ [] }
    ∷ record { question = price case_flat (0 ∷ 0 ∷ 0 ∷ 1 ∷ []); says = 20 ∷ [] }
    -- 21: endpoints 0 and 7, also where the record weighs nothing, and without endpoints any; endpoint 6 is the last
    ∷ record { question = price case_flat (flat_records ++ (0 ∷ 0 ∷ 0 ∷ [])); says = 21 ∷ [] }
    ∷ record { question = price case_flat (7 ∷ 0 ∷ 1 ∷ []); says = 21 ∷ [] }
    ∷ record { question = price flat_second (7 ∷ 0 ∷ 1 ∷ []); says = 21 ∷ [] }
    ∷ record { question = price case_flat (6 ∷ 0xFF ∷ 0xFF ∷ []); says = 0 ∷ sixty (0 ∷ 0 ∷ 65535 ∷ []) }
    ∷ record { question = price (slots_only 0x11 1 1) (1 ∷ 0 ∷ 1 ∷ []); says = 21 ∷ [] }
    ∷ []
