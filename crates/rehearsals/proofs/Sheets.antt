-- The plan of a sheet. Assumes nothing.
use Rattle.std.proofs.Common.{◌≡◌, ℕ, ◌⊎◌, List, [], Ok, Err, Result, sym, subst, inl, inr}
use Rattle.tasks.specs.declared.refusal.Refusal.{Refusal}
use Rattle.tasks.specs.declared.table.Draft.{Draft}
use Rattle.tasks.specs.Tasks.{Table}
use Rattle.tasks.specs.Tables.{drafted}
use Rattle.coretests.specs.Edf.{EdfAccepts, edf_limit}
use Rattle.plans.specs.Plans.{Choice}
use Rattle.clearing.specs.declared.cleared.Cleared.{Cleared}
use Rattle.clearing.specs.Clearing.{rows_in}
use Rattle.sheet.specs.Lines.{FirstRefused}
use Rattle.sheet.specs.Sheets.{Granted, RefusedAfter, SheetRefused}
use Rattle.rehearsals.specs.Plans.{PlansAndClears}
use Rattle.rehearsals.specs.Answers.{PlansSheet}

-- what planning and clearing make of the table that a sheet describes
pub planned_sheet : (bs : List ℕ) (table : Table) (c e : Cleared) (r : Result (Unit {0}) Refusal) → Granted bs table [] → PlansAndClears EdfAccepts edf_limit table c r e → PlansSheet bs c r e
planned_sheet bs table c e (Ok u) g p = (subst (λ t. Granted bs t []) (sym p.0) g, subst (λ t. Choice EdfAccepts edf_limit t (rows_in e)) (sym p.0) p.1)
planned_sheet bs table c e (Err y) g p = (inr (table, g, p.0, p.1), p.2)

-- a sheet that reading has refused
pub refused_sheet : (bs : List ℕ) (d e : Draft) (y : Refusal) → ((e ≡ d) × FirstRefused 0 bs y) ⊎ RefusedAfter bs (drafted e) y → SheetRefused bs y
refused_sheet bs d e y (inl first) = inl first.1
refused_sheet bs d e y (inr later) = inr (drafted e, later)
