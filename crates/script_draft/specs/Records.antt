-- For proofs: what holds of a draft that was read: its numbers, names and values are within what texts may have.
-- docs/SCRIPTS.md, "Texts".
use Rattle.std.specs.Prelude.{◌≡◌, ◌^◌, ◌<◌, ◌≤◌, [], ⊤}
use Rattle.note_texts.specs.Grammar.{IsName}
use Rattle.note_types.specs.Limits.{IsVersion}
use Rattle.note_types.specs.Records.{Each}
use Rattle.script_draft.specs.Grammar.{IsWritable}
use Rattle.script_draft.specs.declared.draft.CallDraft.{CallDraft}
use Rattle.script_draft.specs.declared.draft.NotifyDraft.{NotifyDraft}
use Rattle.script_draft.specs.declared.draft.ObjectDraft.{ObjectDraft}
use Rattle.script_draft.specs.declared.draft.ScriptDraft.{ScriptDraft}
use Rattle.script_draft.specs.declared.parts.CallbackText.{CallbackText}
use Rattle.script_draft.specs.declared.parts.CellValueText.{CellValueText}
use Rattle.script_draft.specs.declared.parts.OutText.{OutText}
use Rattle.script_draft.specs.declared.parts.WriteText.{WriteText}
use Rattle.script_draft.specs.declared.value.ArgumentText.{ArgumentText}
use Rattle.script_draft.specs.declared.value.ArgumentText.TheVariants.{Out, Lent, Given}

abbrev pub IsArgumentDraft : ArgumentText → Type 0
IsArgumentDraft Out = ⊤
IsArgumentDraft (Lent v) = IsWritable v
IsArgumentDraft (Given v) = IsWritable v

pub record IsCellDraft (c : CellValueText) : Type 0 where
  pub instance : c.instance < 2 ^ 64
  pub field : IsName c.field
  pub value : IsWritable c.value

pub record IsCallbackDraft (b : CallbackText) : Type 0 where
  pub function : IsName b.function
  pub values : Each IsWritable b.values

pub record IsOutDraft (o : OutText) : Type 0 where
  pub argument : o.argument < 2 ^ 64
  pub value : IsWritable o.value

pub record IsWriteDraft (w : WriteText) : Type 0 where
  pub object : w.object < 2 ^ 64
  pub instance : w.instance < 2 ^ 64
  pub field : IsName w.field
  pub value : IsWritable w.value

pub record IsObjectDraft (o : ObjectDraft) : Type 0 where
  pub shape : IsName o.shape
  pub count : (1 ≤ o.count) × (o.count < 2 ^ 64)
  pub cells : Each IsCellDraft o.cells

pub record IsCallDraft (c : CallDraft) : Type 0 where
  pub signature : IsName c.signature
  pub args : Each IsArgumentDraft c.args
  pub enter : Each IsCallbackDraft c.enter
  pub make : Each IsObjectDraft c.make
  pub out : Each IsOutDraft c.out
  pub write : Each IsWriteDraft c.write
  pub result : IsWritable c.result

pub record IsNotifyDraft (n : NotifyDraft) : Type 0 where
  pub at : n.at ≤ 10000000
  pub function : IsName n.function
  pub args : Each IsWritable n.args

pub record IsDraft (d : ScriptDraft) : Type 0 where
  pub version : IsVersion d.version
  pub args : Each IsWritable d.args
  pub object : Each IsObjectDraft d.object
  pub call : Each IsCallDraft d.call
  pub notify : Each IsNotifyDraft d.notify
  pub none : d.version ≡ 1 → d.notify ≡ []
