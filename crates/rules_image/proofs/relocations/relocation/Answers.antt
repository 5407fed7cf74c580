use Rattle.std.proofs.Common.{sym, ◌∙◌}
use Rattle.rules_image.proofs.Relocs.{fails_form, fails_named, fails_none, holds_none, holds_some, is_named, none_touched, reloc_none}
use Rattle.rules_image.proofs.relocations.relocation.Goals as goal

pub returns-then-is_absolute-clause-fails : goal.returns-then-is_absolute-clause-fails
returns-then-is_absolute-clause-fails c =
    fails_none c.args.image.now c.requires.image c.args.at c.args.next c.args.first c.requires.first c.requires.later c.args.notes.now
    c.args.i.now c.in-None.ensures.none
    (sym c.is_absolute.ensures ∙ c.if-is_absolute.true)

pub returns-else-is_absolute-clause-holds : goal.returns-else-is_absolute-clause-holds
returns-else-is_absolute-clause-holds c = (
  sym (reloc_none c.args.image.now c.requires.image c.args.at c.args.next c.args.first c.requires.first c.requires.later
      (none_touched c.args.image.now c.requires.image c.args.at c.args.next c.args.first c.requires.first c.requires.later
      c.in-None.ensures.none)),
  holds_none c.args.image.now c.requires.image c.args.at c.args.next c.args.first c.requires.first c.requires.later c.args.notes.now
      c.args.i.now c.in-None.ensures.none
      (sym c.is_absolute.ensures ∙ c.if-is_absolute.false),
)

pub returns-then-not-may_be_relocated-clause-fails : goal.returns-then-not-may_be_relocated-clause-fails
returns-then-not-may_be_relocated-clause-fails c =
    let found = c.in-Some.ensures.some in
    fails_form c.args.image.now c.requires.image c.args.at c.args.next c.args.first c.requires.first c.requires.later c.args.notes.now
    c.args.i.now c.in-Some.place found.0 found.1
    (λ ends form. let yes = c.may_be_relocated.ensures.1 (ends, form) in let is = c.if-not-may_be_relocated.true in cc)

pub returns-in-Some-named_by-clause-holds : goal.returns-in-Some-named_by-clause-holds
returns-in-Some-named_by-clause-holds c =
    let found = c.in-Some.ensures.some in
    let may = c.may_be_relocated.ensures.0 c.if-not-may_be_relocated.false in (
      is_named c.args.image.now c.requires.image c.args.at c.args.next c.args.first c.requires.first c.requires.later c.args.notes.now
          c.args.i.now c.in-Some.place found.0 found.1 may.0 c.in-Some-named_by.named c.in-Some-named_by.ensures.some,
      holds_some c.args.image.now c.requires.image c.args.at c.args.next c.args.first c.requires.first c.requires.later c.args.notes.now
          c.args.i.now c.in-Some.place found.0 found.1 may.0 may.1 c.in-Some-named_by.named c.in-Some-named_by.ensures.some,
    )

pub returns-in-None-named_by-clause-fails : goal.returns-in-None-named_by-clause-fails
returns-in-None-named_by-clause-fails c =
    let found = c.in-Some.ensures.some in
    let may = c.may_be_relocated.ensures.0 c.if-not-may_be_relocated.false in
    fails_named c.args.image.now c.requires.image c.args.at c.args.next c.args.first c.requires.first c.requires.later c.args.notes.now
    c.args.i.now c.in-Some.place found.0 found.1 may.0 c.in-None-named_by.ensures.none
