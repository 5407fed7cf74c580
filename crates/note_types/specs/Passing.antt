-- For proofs: which types notes allow where: what a natural slot keeps, what passes the boundary to the firmware, what a
-- call hands over. docs/NOTES.md, "The conditions" and "Texts", lists them.
use Rattle.std.specs.Prelude.{◌≡◌, ◌^◌, ◌<◌, ℤ, pos, negsuc, ⊤}
use Rattle.note_types.specs.declared.cell.SlotKind.{SlotKind}
use Rattle.note_types.specs.declared.cell.SlotKind.TheVariants as kind
use Rattle.note_types.specs.declared.notes.Want.{Want}
use Rattle.note_types.specs.declared.notes.Want.TheVariants as want
use Rattle.note_types.specs.declared.types.Ty.{Ty}
use Rattle.note_types.specs.declared.types.Ty.TheVariants.{Any, Int, Lin, Scaled, Ptr, Local, Lent, Status, SignedStatus, Mask, Handle}
use Rattle.note_types.specs.declared.types.Ty.TheVariants.{Entry, Method, ThunkAt, Saved}

-- the pair is (0, 0)
abbrev pub IsStart : ℤ → ℤ → Type 0
IsStart n c = (n ≡ pos 0) × (c ≡ pos 0)

-- the number isn't negative
abbrev pub IsNotNegative : ℤ → Type 0
IsNotNegative (pos n) = ⊤
IsNotNegative (negsuc n) = ⊥

-- a parameter is natural or has 8 bytes
abbrev pub IsParameterKind : SlotKind → Type 0
IsParameterKind kind.N = ⊤
IsParameterKind kind.Q = ⊤
IsParameterKind kind.D = ⊥

-- a move of natural size keeps the type; Any counts as kept
abbrev pub IsKept : Ty → Type 0
IsKept Any = ⊤
IsKept (Int lo hi div) = hi < 2 ^ 32
IsKept (Lin n c) = IsNotNegative c
IsKept (Scaled n c hi) = ⊤
IsKept (Ptr s k n c null) = IsStart n c
IsKept (Local f) = ⊤
IsKept (Lent cell) = ⊤
IsKept (Status g) = ⊤
IsKept (SignedStatus g) = ⊥
IsKept Mask = ⊤
IsKept Handle = ⊤
IsKept Entry = ⊤
IsKept (Method m) = ⊤
IsKept (ThunkAt i) = ⊤
IsKept (Saved i) = ⊥

-- the same of what a native method takes
abbrev pub IsKeptWant : Want → Type 0
IsKeptWant (want.Int lo hi) = hi < 2 ^ 32
IsKeptWant _ = ⊤

-- the firmware may hand the type to a function that it enters
abbrev pub IsHandedIn : Ty → Type 0
IsHandedIn Any = ⊤
IsHandedIn (Int lo hi div) = hi < 2 ^ 32
IsHandedIn (Ptr s k n c null) = IsStart n c
IsHandedIn Handle = ⊤
IsHandedIn (Status g) = ⊤
IsHandedIn _ = ⊥

-- a function that the firmware enters may give the type back
abbrev pub IsHandedBack : Ty → Type 0
IsHandedBack Any = ⊤
IsHandedBack (Int lo hi div) = hi < 2 ^ 32
IsHandedBack (Status g) = ⊤
IsHandedBack _ = ⊥

-- a parameter may have the type: it says nothing of the caller's own frame
abbrev pub IsPassed : Ty → Type 0
IsPassed Any = ⊤
IsPassed (Int lo hi div) = ⊤
IsPassed (Lin n c) = ⊤
IsPassed (Scaled n c hi) = ⊤
IsPassed (Ptr s k n c null) = ⊤
IsPassed (Local f) = ⊥
IsPassed (Lent cell) = ⊤
IsPassed (Status g) = g ≡ 0
IsPassed (SignedStatus g) = g ≡ 0
IsPassed Mask = ⊤
IsPassed Handle = ⊤
IsPassed Entry = ⊤
IsPassed (Method m) = ⊤
IsPassed (ThunkAt i) = ⊤
IsPassed (Saved i) = ⊥

-- a result may have the type: it says nothing of a frame or of a thunk cell
abbrev pub IsReturned : Ty → Type 0
IsReturned (Lent cell) = ⊥
IsReturned (ThunkAt i) = ⊥
IsReturned t = IsPassed t

-- what a native method may give: a status with no grants, a handle, numbers below 2^32, or the start of an instance
abbrev pub IsGiven : Ty → Type 0
IsGiven (Status g) = g ≡ 0
IsGiven Handle = ⊤
IsGiven (Int lo hi div) = hi < 2 ^ 32
IsGiven (Ptr s k n c null) = IsStart n c
IsGiven _ = ⊥
