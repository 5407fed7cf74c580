use Rattle.ebc_link.proofs.Common.{◌≡◌, sym, ◌∙◌, refl, true, false, not-false, not-true, is_named, is_definition, first_again}
use Rattle.ebc_link.proofs.GlobalLaws.{defined-push, names-defined}
use Rattle.ebc_link.proofs.globals.Globals.add.Goals as goal

pub returns-then-not-is_definition-clause-twice : goal.returns-then-not-is_definition-clause-twice
unfolding first_again
returns-then-not-is_definition-clause-twice c =
    let other : is_definition c.args.symbol.now ≡ false = sym c.is_definition.ensures ∙ c.if-not-is_definition.true in
    rw other refl

pub returns-then-not-branch-clause-twice : goal.returns-then-not-branch-clause-twice
unfolding first_again
returns-then-not-branch-clause-twice c =
    let s = c.args.symbol.now in
    let g = c.args.self.now in
    let defines : is_definition s ≡ true = sym c.is_definition.ensures ∙ c.if-not-is_definition.false in
    let named : is_named s.name g.names ≡ true = not-false (is_named s.name g.names) (sym c.in_ok-add.ensures.new ∙ c.if-not-branch.true) in
    rw (defines, names-defined g.names g.places.items c.requires.paired, named, c.in_ok-copy.ensures) refl

pub returns-clause-twice : goal.returns-clause-twice
unfolding first_again
returns-clause-twice c =
    let s = c.args.symbol.now in
    let g = c.args.self.now in
    let defines : is_definition s ≡ true = sym c.is_definition.ensures ∙ c.if-not-is_definition.false in
    let new : is_named s.name g.names ≡ false = not-true (is_named s.name g.names) (sym c.in_ok-add.ensures.new ∙ c.if-not-branch.false) in
    rw (defines, names-defined g.names g.places.items c.requires.paired, new) refl

pub returns-clause-defined : goal.returns-clause-defined
returns-clause-defined c =
    let s = c.args.symbol.now in
    let g = c.args.self.now in
    let defines : is_definition s ≡ true = sym c.is_definition.ensures ∙ c.if-not-is_definition.false in
    let new : is_named s.name g.names ≡ false = not-true (is_named s.name g.names) (sym c.in_ok-add.ensures.new ∙ c.if-not-branch.false) in
    rw (c.in_ok-add.ensures.ok, c.in_ok-push.ensures.items, new, defines, c.start.ensures.start)
    (defined-push g.names g.places.items s.name _ c.requires.paired)
