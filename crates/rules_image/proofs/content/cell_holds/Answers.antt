use Rattle.std.proofs.Common.{◌↔◌, subst, sym}
use Rattle.std.specs.Prelude.{IsTrue}
use Rattle.note_types.specs.declared.cell.Cell.{Cell}
use Rattle.rules_image.specs.Images.{CellHolds}
use Rattle.rules_image.proofs.content.cell_holds.Goals as goal

pub returns-in-I8 : goal.returns-in-I8
returns-in-I8 c = subst (λ (k : Cell). IsTrue c.is_unrelocated.result ↔ CellHolds c.args.image.now c.args.notes.now c.args.place k)
    (sym c.in-I8.is) c.is_unrelocated.ensures

pub returns-in-I16 : goal.returns-in-I16
returns-in-I16 c = subst (λ (k : Cell). IsTrue c.is_unrelocated-in-I16.result ↔ CellHolds c.args.image.now c.args.notes.now c.args.place k)
    (sym c.in-I16.is) c.is_unrelocated-in-I16.ensures

pub returns-in-I32 : goal.returns-in-I32
returns-in-I32 c = subst (λ (k : Cell). IsTrue c.is_unrelocated-in-I32.result ↔ CellHolds c.args.image.now c.args.notes.now c.args.place k)
    (sym c.in-I32.is) c.is_unrelocated-in-I32.ensures

pub returns-in-I64 : goal.returns-in-I64
returns-in-I64 c = subst (λ (k : Cell). IsTrue c.is_unrelocated-in-I64.result ↔ CellHolds c.args.image.now c.args.notes.now c.args.place k)
    (sym c.in-I64.is) c.is_unrelocated-in-I64.ensures

pub returns-in-P64 : goal.returns-in-P64
returns-in-P64 c = subst (λ (k : Cell). IsTrue c.pointer_holds.result ↔ CellHolds c.args.image.now c.args.notes.now c.args.place k)
    (sym c.in-P64.is) c.pointer_holds.ensures
