-- Document 02, [12], as computed tables: the small check and the planner on both sides of each test, the writer with a plan, and columns of
-- edition 4 that are read, refused and damaged. Assumes nothing.
use Rattle.format.specs.Kit.{◌≡◌, true, false, List, [], ◌∷◌, ◌++◌, map, ℕ, ◌^◌, ◌-◌, replicate, length, ℤ, pos, negsuc}
use Rattle.format.specs.Refusals.{done, refused, EDITION, ORDER, RANGE, PLAN, ROOM, HEADER, BUFFER, DAMAGED, BROKEN}
use Rattle.format.specs.Editions.{plain, table, editions}
use Rattle.format.specs.Column.{column}
use Rattle.format.specs.Table.{table_of, code_in, table_fields}
use Rattle.format.specs.Plan.{plan_ok, plan_of, plan}
use Rattle.format.specs.Writer.{write_planned, write, write_reply, write_out}
use Rattle.format.specs.Check.{check, reading}
use Rattle.format.specs.LookUp.{found, look_up}
use Rattle.format.proofs.Pins.{headed, section, lowest, highest}
use Rattle.format.proofs.Computing.{computing}

-- ---- values

-- document 02's five
unfoldable pub five : List ℤ
five = pos 5 ∷ pos 6 ∷ pos 5 ∷ pos 6 ∷ pos 3000 ∷ []

-- the smallest and the greatest 64-bit value, and 0 between them
unfoldable pub ends : List ℤ
ends = lowest ∷ highest ∷ []

unfoldable pub wide : List ℤ
wide = lowest ∷ pos 0 ∷ highest ∷ []

-- two values whose columns with a table are one byte shorter, and as long
unfoldable pub by_one : List ℤ
by_one = lowest ∷ negsuc (2 ^ 63 - 2 ^ 62 - 1) ∷ []

unfoldable pub as_long_lem : List ℤ
as_long_lem = negsuc (2 ^ 62 - 1) ∷ pos 0 ∷ []

pub record PlanCases : Type 0 where
  -- 5, 6, 5, 6, 3000 have codes 0, 1, 0, 1, 2 at width 2, but that column is longer: rejected, and the planner says plain
  pub codes : map (code_in (table_of five)) five ≡ 0 ∷ 1 ∷ 0 ∷ 1 ∷ 2 ∷ []
  pub code_width_is : (table_fields (length (table_of five))).width ≡ 2
  pub longer : plan_ok (pos 5 ∷ pos 6 ∷ pos 3000 ∷ []) five ≡ false
  pub longer_plain : plan_of five ≡ []
  -- plain always
  pub plain_taken : plan_ok [] five ≡ true
  pub none_taken : plan_ok [] [] ≡ true
  -- strictly shorter: by one byte, and as long
  pub shorter_by_one : plan_ok by_one by_one ≡ true
  pub as_long : plan_ok as_long_lem as_long_lem ≡ false
  pub as_long_plain : plan_of as_long_lem ≡ []
  -- 2 entries and 3
  pub two : plan_of ends ≡ ends
  pub three : plan_of (highest ∷ pos 0 ∷ lowest ∷ pos 0 ∷ []) ≡ wide
  -- one entry; an unused entry; a missing value; a descending pair; an entry twice
  pub one_entry : plan_ok (lowest ∷ []) (lowest ∷ lowest ∷ []) ≡ false
  pub unused : plan_ok wide ends ≡ false
  pub missing : plan_ok ends wide ≡ false
  pub descending : plan_ok (highest ∷ lowest ∷ []) ends ≡ false
  pub twice : plan_ok (lowest ∷ pos 0 ∷ pos 0 ∷ highest ∷ []) wide ≡ false
  -- no values
  pub nothing : plan_of [] ≡ []
  pub table_of_nothing : plan_ok ends [] ≡ false
  -- the call: into 256 places and no fewer; the others stay
  pub into_256 : plan ends 256 ≡ done ends
  pub into_255 : plan ends 255 ≡ refused BUFFER 256
  pub short_for_plain : write_reply (plan five 0) ≡ refused BUFFER 256
  pub no_entries : write_reply (plan five 256) ≡ done 0
  pub others_stay : write_out (plan ends 256) (pos 1 ∷ pos 2 ∷ pos 3 ∷ []) ≡ lowest ∷ highest ∷ pos 3 ∷ []
  pub none_touched : write_out (plan ends 3) (pos 1 ∷ pos 2 ∷ pos 3 ∷ []) ≡ pos 1 ∷ pos 2 ∷ pos 3 ∷ []

pub plan_cases : PlanCases
unfolding computing five lowest highest ends wide by_one as_long_lem
plan_cases = search

-- ---- the writer

pub record PlannedCases : Type 0 where
  -- a table, and plain, which gives edition 1
  pub with_table : write_planned 9 (0 ∷ 2 ∷ 7 ∷ []) wide wide 100 ≡ done (column table 9 (0 ∷ 2 ∷ 7 ∷ []) wide)
  pub with_plain : write_planned 9 (0 ∷ 2 ∷ 7 ∷ []) wide [] 100 ≡ done (column plain 9 (0 ∷ 2 ∷ 7 ∷ []) wide)
  -- 17 with 0, after RANGE and before ROOM
  pub rejected : write_planned 9 (0 ∷ 2 ∷ 7 ∷ []) wide ends 100 ≡ refused PLAN 0
  pub plan_before_room : write_planned 9 (0 ∷ 2 ∷ 7 ∷ []) wide ends 0 ≡ refused PLAN 0
  pub order_before_plan : write_planned 9 (0 ∷ 7 ∷ 2 ∷ []) wide ends 100 ≡ refused ORDER 2
  pub range_before_plan : write_planned 9 (0 ∷ 2 ∷ 2147352576 ∷ []) wide ends 100 ≡ refused RANGE 2
  pub room : write_planned 9 (0 ∷ 2 ∷ 7 ∷ []) wide wide 49 ≡ refused ROOM 50
  -- told edition 4: the planner's table, or edition 1
  pub told : write 4 9 (0 ∷ 2 ∷ 7 ∷ []) wide 50 ≡ done (column table 9 (0 ∷ 2 ∷ 7 ∷ []) wide)
  pub told_plain : write 4 9 (0 ∷ 1 ∷ 2 ∷ 3 ∷ 4 ∷ []) five 100 ≡ done (column plain 9 (0 ∷ 1 ∷ 2 ∷ 3 ∷ 4 ∷ []) five)
  pub told_none : write_reply (write 4 9 [] [] 100) ≡ done 23
  pub told_other : write 5 9 [] [] 100 ≡ refused EDITION 0

pub planned_cases : PlannedCases
unfolding computing five lowest highest ends wide
planned_cases = search

-- ---- columns of edition 4

-- the table of the three values
unfoldable pub entries : List ℕ
entries = (replicate 7 0 ++ (0x80 ∷ [])) ++ (replicate 8 0 ++ (replicate 7 0xFF ++ (0x7F ∷ [])))

-- a header with w, smallest, g and V, the ids 0, 2, 7, the table and the codes
unfoldable pub coded : ℕ → ℕ → ℕ → ℕ → List ℕ → List ℕ
coded w least t v codes = headed (4 ∷ 3 ∷ 9 ∷ 16 ∷ 0 ∷ w ∷ least ∷ t ∷ v ∷ []) (section ++ (entries ++ codes))

pub record TableCases : Type 0 where
  -- codes 0, 1, 2 at width 2, high bit first: 18
  pub bytes : column table 9 (0 ∷ 2 ∷ 7 ∷ []) wide ≡ coded 2 0 3 25 (0x18 ∷ [])
  pub checked : check editions (coded 2 0 3 25 (0x18 ∷ [])) ≡ done 3
  pub is_read : reading editions (coded 2 0 3 25 (0x18 ∷ [])) 3 3 ≡ done (record { ids = 0 ∷ 2 ∷ 7 ∷ []; values = wide })
  pub looked_first : look_up editions (coded 2 0 3 25 (0x18 ∷ [])) 0 ≡ done (found 0 lowest 0)
  pub looked_last : look_up editions (coded 2 0 3 25 (0x18 ∷ [])) 7 ≡ done (found 2 highest 0)
  -- another T, w or smallest, and another V: HEADER
  pub entries_1 : check editions (coded 0 0 1 8 []) ≡ refused HEADER 0
  pub entries_257 : check editions (coded 9 0 257 2060 []) ≡ refused HEADER 0
  pub entries_256 : check editions (headed (4 ∷ 0 ∷ 9 ∷ 14 ∷ 1 ∷ 8 ∷ 0 ∷ 256 ∷ 2047 ∷ []) []) ≡ refused HEADER 0
  pub other_width : check editions (coded 3 0 3 26 (0x0A ∷ 0 ∷ [])) ≡ refused HEADER 0
  pub other_smallest : check editions (coded 2 1 3 25 (0x18 ∷ [])) ≡ refused HEADER 0
  pub one_more : check editions (coded 2 0 3 26 (0x18 ∷ 0 ∷ [])) ≡ refused HEADER 0
  -- a code of T: BROKEN where it is looked up, and no column
  pub code_of_t : look_up editions (coded 2 0 3 25 (0x1C ∷ [])) 7 ≡ refused BROKEN 0
  pub others_found : look_up editions (coded 2 0 3 25 (0x1C ∷ [])) 2 ≡ done (found 1 (pos 0) 0)
  pub code_damaged : check editions (coded 2 0 3 25 (0x1C ∷ [])) ≡ refused DAMAGED 0
  -- an entry that no code has; a spare bit set
  pub unused_damaged : check editions (coded 2 0 3 25 (0x14 ∷ [])) ≡ refused DAMAGED 0
  pub spare_damaged : check editions (coded 2 0 3 25 (0x19 ∷ [])) ≡ refused DAMAGED 0
  -- a column that is longer than edition 1's, or as long: no column, though a look-up reads it
  pub longer_damaged : check editions (column table 9 (0 ∷ 1 ∷ 2 ∷ 3 ∷ 4 ∷ []) five) ≡ refused DAMAGED 0
  pub longer_looked : look_up editions (column table 9 (0 ∷ 1 ∷ 2 ∷ 3 ∷ 4 ∷ []) five) 4 ≡ done (found 4 (pos 3000) 0)
  pub as_long_damaged : check editions (column table 9 (0 ∷ 1 ∷ []) as_long_lem) ≡ refused DAMAGED 0
  pub by_one_checked : check editions (column table 9 (0 ∷ 1 ∷ []) by_one) ≡ done 2

pub table_cases : TableCases
unfolding computing headed section five lowest highest wide by_one as_long_lem entries coded
table_cases = search
