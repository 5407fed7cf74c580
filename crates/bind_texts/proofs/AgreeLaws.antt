-- Where all binds pass, all agree.
use Rattle.std.proofs.Common.{◌≡◌, ℕ, ◌+◌, ◌<◌, List, Ok, get_or, length, sym}
use Rattle.std.proofs.lemmas.Option.{get_or_from_slice_get, slice_get-get_or}
use Rattle.std.specs.Prelude.{codes}
use Rattle.bind_texts.specs.BindTexts.{bind_passes}
use Rattle.note_texts.specs.Keys.{item_path}
use Rattle.note_types.specs.declared.fault.TomlFault.TheVariants.{Range}
use Rattle.note_types.specs.declared.notes.Notes.{Notes}
use Rattle.pair_model.specs.Binds.{AllAgree, bind_agrees}
use Rattle.pair_model.specs.declared.bind.Bind.{Bind}
use Rattle.protocol_script.proofs.RecordLaws.{pass-at, passed}
use Rattle.script_draft.specs.Lists.{all_pass}

pub agree_all : (a b : Notes) (binds : List Bind) → all_pass (bind_passes a b) 0 binds ≡ Ok tt → AllAgree a b binds
agree_all a b binds h k x at =
    passed (bind_agrees a b x) (Range (item_path (codes "bind") (0 + k))) (pass-at (bind_passes a b) 0 binds k x h at)

-- an item of a list is the same whatever stands for one that isn't there
pub same_item : (binds : List Bind) (i : ℕ) (d : Bind) → i < length binds → get_or binds i d ≡ get_or binds i (get_or binds i d)
same_item binds i d within =
    let x = get_or binds i d in
    sym (get_or_from_slice_get binds i x x (slice_get-get_or binds i d within))
