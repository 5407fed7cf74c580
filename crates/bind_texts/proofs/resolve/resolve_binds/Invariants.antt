use Rattle.std.proofs.Common.{◌≡◌, drop}
use Rattle.bind_texts.specs.BindTexts.{bind_of}
use Rattle.note_texts.proofs.Loop.{with_front}
use Rattle.script_draft.specs.Lists.{each_of}
use Rattle.bind_texts.proofs.resolve.resolve_binds.Given as goal

abbrev pub invariant-loop-i : goal.invariant-loop-i
invariant-loop-i l =
    with_front l.resolved.items (each_of (bind_of l.a l.b) l.i (drop l.i l.binds)) ≡ each_of (bind_of l.a l.b) 0 l.binds
