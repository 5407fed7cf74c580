use Rattle.std.proofs.Common.{◌≡◌, drop}
use Rattle.note_texts.specs.Names.{names_of}
use Rattle.note_texts.proofs.NameLoops.{texts_now, with_front}
use Rattle.note_texts.proofs.name.names_of.Given as goal

abbrev pub invariant-loop-text : goal.invariant-loop-text
invariant-loop-text l = with_front l.names.items (names_of (texts_now (drop l.text-index l.texts))) ≡ names_of (texts_now l.texts)
