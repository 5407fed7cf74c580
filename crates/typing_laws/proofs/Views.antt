-- Where a value is looked at: by notes and a memory, from a frame at a depth, which keeps registers of its entry.
use Rattle.typing_laws.proofs.Common.{ℕ, Notes, Ty, Memory, Registers, Neutral, Fits}

pub record View : Type 0 where
  pub notes : Notes
  pub m : Memory
  pub d : ℕ
  pub saved : Registers

abbrev pub view_at : Notes → Memory → ℕ → Registers → View
view_at notes m d saved = record { notes = notes; m = m; d = d; saved = saved }

-- a value fits a type there
abbrev pub FitsIn : View → Ty → Neutral → Type 0
FitsIn view t v = Fits view.notes view.m view.d view.saved t v
