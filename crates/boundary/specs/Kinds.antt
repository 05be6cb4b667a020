-- The kinds of a look-up's answer, on the way to that of two. Assumes nothing.
use Rattle.std.specs.Prelude.{◌<◌}
use Rattle.format.specs.Refusals.{Outcome, done, refused}
use Rattle.format.specs.LookUp.{Look}

-- a refusal's number is none of the kinds 0, found, and 1, absent
abbrev pub Apart : Outcome Look → Type 0
Apart (done l) = Unit
Apart (refused why w) = 1 < why
