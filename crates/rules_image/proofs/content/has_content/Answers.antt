use Rattle.std.proofs.Common.{◌↔◌, Bool, subst, sym, ◌∙◌}
use Rattle.std.specs.Prelude.{IsTrue}
use Rattle.rules_image.specs.Images.{HasContentBy}
use Rattle.rules_image.proofs.content.has_content.Goals as goal

pub returns-then-depends : goal.returns-then-depends
returns-then-depends c =
    subst (λ (b : Bool). IsTrue c.is_blank.result ↔ HasContentBy c.args.image.now c.args.notes.now c.args.x.now c.args.s.now b)
    (sym c.if-depends.true ∙ c.depends.ensures) c.is_blank.ensures

pub returns-else-depends : goal.returns-else-depends
returns-else-depends c =
    subst (λ (b : Bool). IsTrue c.is_filled.result ↔ HasContentBy c.args.image.now c.args.notes.now c.args.x.now c.args.s.now b)
    (sym c.if-depends.false ∙ c.depends.ensures) c.is_filled.ensures
