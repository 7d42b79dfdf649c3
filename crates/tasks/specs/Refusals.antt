-- What each refusal says: its number, and the place that it names.
use Rattle.std.specs.Prelude.{ℕ, Bool, cond, List, [], ◌∷◌, Some, None, Option}
use Rattle.tasks.specs.declared.refusal.Refusal.{Refusal}
use Rattle.tasks.specs.declared.refusal.Refusal.TheVariants.{ForbiddenByte, LongNumber, DeepForm, WrongFields, OutOfRange, IdTaken, TableFull, LongSpan, NoLawfulPlan, WrongRow, WrongCut, LongRegion, OverloadedCore, NoSuchPlace, EarlyRelease, UnfinishedJob, NoSuchCore, NothingUnderWay, ClockEnded, WrongRowLength, ShortBuffer}

-- `at` is an offset in the sheet, the place of a task, a core or a count of bytes
pub record Told : Type 0 where
  pub number : ℕ
  pub at : ℕ

abbrev pub told : Refusal → Told
told (ForbiddenByte at) = record { number = 1; at = at }
told (LongNumber at) = record { number = 2; at = at }
told (DeepForm at) = record { number = 3; at = at }
told (WrongFields at) = record { number = 4; at = at }
told (OutOfRange at) = record { number = 5; at = at }
told (IdTaken at) = record { number = 6; at = at }
told (TableFull at) = record { number = 7; at = at }
told (LongSpan at) = record { number = 8; at = at }
told NoLawfulPlan = record { number = 9; at = 0 }
told (WrongRow place) = record { number = 10; at = place }
told (WrongCut place) = record { number = 11; at = place }
told (LongRegion place) = record { number = 12; at = place }
told (OverloadedCore core) = record { number = 13; at = core }
told (NoSuchPlace place) = record { number = 14; at = place }
told (EarlyRelease place) = record { number = 15; at = place }
told (UnfinishedJob place) = record { number = 16; at = place }
told (NoSuchCore core) = record { number = 17; at = core }
told (NothingUnderWay core) = record { number = 18; at = core }
told ClockEnded = record { number = 19; at = 0 }
told WrongRowLength = record { number = 20; at = 0 }
told (ShortBuffer needed) = record { number = 21; at = needed }

-- the first refusal of a list whose condition is met
abbrev pub first_of : List (Bool × Refusal) → Option Refusal
first_of [] = None
first_of ((met, refusal) ∷ others) = cond met (Some refusal) (first_of others)
