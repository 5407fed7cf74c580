use Rattle.std.proofs.Common.{◌≡◌, Ok, Err, true, false, refl, sym, ap, ◌∙◌}
use Rattle.std.proofs.lemmas.Result.{err_from_is_err_and}
use Rattle.std.specs.Prelude.{◌&&◌}
use Rattle.asm_text.specs.Texts.{seen_line}
use Rattle.ebc_asm.specs.Held.{and_global_place, global_is_known}
use Rattle.ebc_asm.specs.Sources.{is_instruction}
use Rattle.ebc_asm.specs.Symbols.{and_name, global_of}
use Rattle.ebc_asm.proofs.TakeLaws.{LabelTold, holds_more, label_told, refused_global, refused_label, refused_room, refused_section, taken}
use Rattle.ebc_asm.proofs.assembler.Assembler.take.Goals as goal
use Rattle.ebc_asm.proofs.assembler.Assembler.take.Goals.{else-self-via-then-self+else-is_instruction, else-self-via-else-self}

pub returns-then-not-branch-clause-takes : goal.returns-then-not-branch-clause-takes
returns-then-not-branch-clause-takes c = λ texts known before holds.
    let global : global_is_known c.args.labels.now (global_of (seen_line c.args.line.now).statement) ≡ false =
    ap (λ o. global_is_known c.args.labels.now o) (sym c.global_of-global.ensures) ∙ sym c.in_ok-global_is_known.ensures
    ∙ c.if-not-branch.true in
    refused_global c.args.labels.now texts before (seen_line c.args.line.now) known global

pub returns-in_err-take_label-clause-takes : goal.returns-in_err-take_label-clause-takes
returns-in_err-take_label-clause-takes c = λ texts known before holds.
    let p = err_from_is_err_and c.from_residual-in_err-take_label.result c.from_residual-in_err-take_label.ensures.1 in
    let global : global_is_known c.args.labels.now (global_of (seen_line c.args.line.now).statement) ≡ true =
    ap (λ o. global_is_known c.args.labels.now o) (sym c.global_of-global.ensures) ∙ sym c.in_ok-global_is_known.ensures
    ∙ c.if-not-branch.false in
    let told : LabelTold (Err c.in_err-take_label.field-0.0)
    (seen_line c.args.line.now) c.args.self.now c.take_label.new.self.places.items =
    label_told (Err c.in_err-take_label.field-0.0)
    (seen_line c.args.line.now) c.args.self.now c.section_kind-kind.result c.here-offset.result c.take_label.new.self.places.items
    c.section_kind-kind.ensures c.here-offset.ensures c.in_err-take_label.ensures.labels in
    rw (p.1, p.2)
    (refused_label c.args.labels.now texts before (seen_line c.args.line.now) c.args.self.now
    (record c.args.self.now {
      names = c.take_label.new.self;
    }) c.take_label.new.self.places.items c.in_err-take_label.field-0.0 known holds global told)

pub returns-in_err-add-clause-takes : goal.returns-in_err-add-clause-takes
returns-in_err-add-clause-takes c = λ texts known before holds.
    let p = err_from_is_err_and c.from_residual-in_err-add.result c.from_residual-in_err-add.ensures.1 in
    let global : global_is_known c.args.labels.now (global_of (seen_line c.args.line.now).statement) ≡ true =
    ap (λ o. global_is_known c.args.labels.now o) (sym c.global_of-global.ensures) ∙ sym c.in_ok-global_is_known.ensures
    ∙ c.if-not-branch.false in
    let told : LabelTold (Ok tt) (seen_line c.args.line.now) c.args.self.now c.take_label.new.self.places.items =
    label_told (Ok tt)
    (seen_line c.args.line.now) c.args.self.now c.section_kind-kind.result c.here-offset.result c.take_label.new.self.places.items
    c.section_kind-kind.ensures c.here-offset.ensures c.in_ok-take_label.ensures.labels in
    rw (p.1, p.2)
    (refused_room c.args.labels.now texts before
    (seen_line c.args.line.now) c.args.self.now c.add.new.self c.add.new.self c.take_label.new.self c.take_global.new.self
    c.in_err-add.field-0.0 known holds global told c.in_err-add.ensures.adds)

pub returns-then-is_instruction-clause-takes : goal.returns-then-is_instruction-clause-takes
returns-then-is_instruction-clause-takes c = λ texts known before holds.
    let global : global_is_known c.args.labels.now (global_of (seen_line c.args.line.now).statement) ≡ true =
    ap (λ o. global_is_known c.args.labels.now o) (sym c.global_of-global.ensures) ∙ sym c.in_ok-global_is_known.ensures
    ∙ c.if-not-branch.false in
    let told : LabelTold (Ok tt) (seen_line c.args.line.now) c.args.self.now c.take_label.new.self.places.items =
    label_told (Ok tt)
    (seen_line c.args.line.now) c.args.self.now c.section_kind-kind.result c.here-offset.result c.take_label.new.self.places.items
    c.section_kind-kind.ensures c.here-offset.ensures c.in_ok-take_label.ensures.labels in
    let there : is_instruction (seen_line c.args.line.now).statement ≡ true = sym c.is_instruction.ensures ∙ c.if-is_instruction.true in
    let both : (c.add.new.self.in_data && is_instruction (seen_line c.args.line.now).statement) ≡ true = rw (c.if-self.true, there) refl in
    refused_section c.args.labels.now texts before
    (seen_line c.args.line.now) c.args.self.now c.add.new.self c.take_label.new.self c.take_global.new.self known holds global told
    c.in_ok-add.ensures.adds both

pub returns-clause-takes : goal.returns-clause-takes
returns-clause-takes c = λ texts known before holds.
    let global : global_is_known c.args.labels.now (global_of (seen_line c.args.line.now).statement) ≡ true =
    ap (λ o. global_is_known c.args.labels.now o) (sym c.global_of-global.ensures) ∙ sym c.in_ok-global_is_known.ensures
    ∙ c.if-not-branch.false in
    let told : LabelTold (Ok tt) (seen_line c.args.line.now) c.args.self.now c.take_label.new.self.places.items =
    label_told (Ok tt)
    (seen_line c.args.line.now) c.args.self.now c.section_kind-kind.result c.here-offset.result c.take_label.new.self.places.items
    c.section_kind-kind.ensures c.here-offset.ensures c.in_ok-take_label.ensures.labels in
    let table : c.take_global.new.self.table ≡ and_name (global_of (seen_line c.args.line.now).statement) c.take_label.new.self.table =
    c.in_ok-take_global.ensures.table ∙ ap (λ o. and_name o c.take_label.new.self.table) c.global_of-global.ensures in
    let places : c.take_global.new.self.places.items ≡ and_global_place
    (global_of (seen_line c.args.line.now).statement) c.take_label.new.self.table c.take_label.new.self.places.items =
    c.in_ok-take_global.ensures.places
    ∙ ap (λ o. and_global_place o c.take_label.new.self.table c.take_label.new.self.places.items) c.global_of-global.ensures in
    let neither : (c.add.new.self.in_data && is_instruction (seen_line c.args.line.now).statement) ≡ false =
    elim c.else-self.branch [
      | else-self-via-then-self+else-is_instruction w ↦ rw (
        w.if-self.true,
        sym w.is_instruction.ensures
            ∙ w.if-is_instruction.false,
      ) refl
      | else-self-via-else-self w ↦ rw w.if-self.false refl
    ] in (
      taken c.args.labels.now texts before
          (seen_line c.args.line.now) c.args.self.now c.add.new.self c.take_label.new.self c.take_global.new.self known holds global told
          c.in_ok-add.ensures.adds neither,
      holds_more before
          (seen_line c.args.line.now) c.args.self.now c.add.new.self c.take_label.new.self c.take_global.new.self c.data_after-self.result
          holds told c.in_ok-take_label.ensures.table table places c.in_ok-add.ensures.adds c.data_after-self.ensures,
    )
