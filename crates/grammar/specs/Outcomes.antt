-- What the grammar says of any bytes from a line's start on.
use Rattle.std.specs.Prelude.{◌≡◌, ℕ, ◌⊎◌, List}
use Rattle.grammar.specs.Faults.{Fault, Faulty, Leads}

-- A lawful line stands first or there is a fault, never both, and only one line or one fault.
pub record OneOutcome : Type 0 where
  pub some : (start : ℕ) (bs : List ℕ) → Leads bs ⊎ ((y : Fault) × Faulty start bs y)
  pub never_both : (start : ℕ) (bs : List ℕ) (y : Fault) → Leads bs → Faulty start bs y → ⊥
  pub one_line : (bs : List ℕ) (a b : Leads bs) → (a.tree ≡ b.tree) × (a.tail ≡ b.tail)
  pub one_fault : (start : ℕ) (bs : List ℕ) (y z : Fault) → Faulty start bs y → Faulty start bs z → y ≡ z
