-- The state of a cabinet's plain part.
use Rattle.std.specs.Prelude.{List}
use Rattle.bounded.specs.Lists.{list_of}
use Rattle.machine.specs.declared.types.Slot.{Slot}
use Rattle.machine.specs.Machine.{State}
use Rattle.cabinet.specs.declared.plain.Plain.{Plain}

abbrev pub state_of : Plain → State
state_of p = record { cores = p.cores; clock = p.clock; slots = list_of p.slots }

-- a state with other records
abbrev pub with_slots : State → List Slot → State
with_slots st ss = record { cores = st.cores; clock = st.clock; slots = ss }
