-- For proofs: the kinds of steps of a run: by what comes next in a configuration. docs/HOST.md, "Steps".
use Rattle.std.specs.Prelude.{◌≡◌, ℕ, Bool, true, false, List, [], ◌∷◌, Some, None, nat_eq, slice_get}
use Rattle.ebc_insn.specs.declared.Insn.{Insn}
use Rattle.ebc_insn.specs.declared.Insn.TheVariants as insns
use Rattle.note_types.specs.declared.script.Callback.{Callback}
use Rattle.note_types.specs.declared.script.ScriptCall.{ScriptCall}
use Rattle.note_types.specs.declared.spot.Spot.TheVariants.{Place, Gate}
use Rattle.pe_image.specs.declared.image.Image.{Image}
use Rattle.neutral_machine.specs.Config.{Frame, Host, HostFrame, Config, call_under_way}
use Rattle.host_model.specs.HostPlans.{is_due}
use Rattle.host_model.specs.Progress.{NoCall, Asked, Accepted}
use Rattle.host_model.specs.Values.{Neutral}
use Rattle.host_model.specs.World.{World}
use Rattle.neutral_machine.specs.NeutralImage.{instruction_at}

-- ---- instructions

-- whether an instruction calls a native method: CALLEX
abbrev pub calls_native : Insn → Bool
calls_native (insns.Call far native relative op extra) = native
calls_native i = false

-- whether it makes a thunk: BREAK 5
abbrev pub makes_thunk : Insn → Bool
makes_thunk (insns.Break code) = nat_eq code 5
makes_thunk i = false

-- an instruction of the image stands at the spot, no native call is under way, and no notification is due
pub record AtInstruction (image : Image) (world : World) (a : Config) (i : Insn) : Type 0 where
  pub place : ℕ
  pub size : ℕ
  pub spot : a.spot ≡ Place place
  pub under : call_under_way a.frames ≡ NoCall
  pub not_due : is_due world.script a.script ≡ false
  pub insn : instruction_at image place ≡ Some (i, size)

-- an instruction that calls no native method and makes no thunk
pub record IsPlain (image : Image) (world : World) (a : Config) : Type 0 where
  pub insn : Insn
  pub at : AtInstruction image world a insn
  pub no_call : calls_native insn ≡ false
  pub no_thunk : makes_thunk insn ≡ false

-- an instruction that calls a native method
pub record IsNativeCall (image : Image) (world : World) (a : Config) : Type 0 where
  pub insn : Insn
  pub at : AtInstruction image world a insn
  pub call : calls_native insn ≡ true

-- an instruction that makes a thunk, and what the host does to serve it
pub record IsThunk (image : Image) (world : World) (a : Config) : Type 0 where
  pub insn : Insn
  pub at : AtInstruction image world a insn
  pub thunk : makes_thunk insn ≡ true

-- ---- steps of the host

-- the call step: a native call was asked for
pub record IsCall (image : Image) (world : World) (a : Config) : Type 0 where
  pub next : ℕ
  pub place : ℕ
  pub target : Neutral
  pub spot : a.spot ≡ Place next
  pub under : call_under_way a.frames ≡ Asked place target

-- a native call is under way that a call of the script answers, of which so many callbacks were entered
pub record IsWithin (world : World) (a : Config) (call : ScriptCall) (callbacks : ℕ) : Type 0 where
  pub next : ℕ
  pub entry : ℕ
  pub args : List Neutral
  pub spot : a.spot ≡ Place next
  pub under : call_under_way a.frames ≡ Accepted entry callbacks args
  pub entry_is : slice_get world.script.call entry ≡ Some call

-- the enter step: a callback is left
pub record IsEnter (image : Image) (world : World) (a : Config) : Type 0 where
  pub call : ScriptCall
  pub callbacks : ℕ
  pub within : IsWithin world a call callbacks
  pub callback : Callback
  pub left : slice_get call.enter callbacks ≡ Some callback

-- the reply step: none is left
pub record IsReply (image : Image) (world : World) (a : Config) : Type 0 where
  pub call : ScriptCall
  pub callbacks : ℕ
  pub within : IsWithin world a call callbacks
  pub none_left : slice_get call.enter callbacks ≡ None

-- the notify step: a notification is due where an instruction stands, and no native call is under way
pub record IsNotify (image : Image) (world : World) (a : Config) : Type 0 where
  pub place : ℕ
  pub spot : a.spot ≡ Place place
  pub under : call_under_way a.frames ≡ NoCall
  pub due : is_due world.script a.script ≡ true

-- leaving a callback: its function has returned to the gate
pub record IsLeaving (image : Image) (world : World) (a : Config) : Type 0 where
  pub host : HostFrame
  pub below : Frame
  pub rest : List Frame
  pub spot : a.spot ≡ Gate
  pub frames : a.frames ≡ Host host ∷ below ∷ rest
  pub notified : host.notified ≡ false

-- leaving a notification: its function has returned to the gate
pub record IsResuming (image : Image) (world : World) (a : Config) : Type 0 where
  pub host : HostFrame
  pub below : Frame
  pub rest : List Frame
  pub spot : a.spot ≡ Gate
  pub frames : a.frames ≡ Host host ∷ below ∷ rest
  pub notified : host.notified ≡ true

-- leaving the first frame: the entry function has returned
pub record IsLast (image : Image) (world : World) (a : Config) : Type 0 where
  pub host : HostFrame
  pub spot : a.spot ≡ Gate
  pub frames : a.frames ≡ Host host ∷ []

-- ---- all of them

-- The step that comes next is of one of these kinds.
pub data NextStep (image : Image) (world : World) (a : Config) : Type 0 where
  plain : IsPlain image world a → NextStep image world a
  native_call : IsNativeCall image world a → NextStep image world a
  thunk : IsThunk image world a → NextStep image world a
  call : IsCall image world a → NextStep image world a
  enter : IsEnter image world a → NextStep image world a
  reply : IsReply image world a → NextStep image world a
  notify : IsNotify image world a → NextStep image world a
  leaving : IsLeaving image world a → NextStep image world a
  resuming : IsResuming image world a → NextStep image world a
  last : IsLast image world a → NextStep image world a
