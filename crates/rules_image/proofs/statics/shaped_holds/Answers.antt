use Rattle.std.proofs.Common.{◌+◌, ◌≤◌, arith, subst, sym}
use Rattle.std.proofs.lemmas.Option.{get_or_from_slice_get, slice_get_within}
use Rattle.rules_image.specs.Images.{extent}
use Rattle.rules_image.specs.Checks.{IsStaticApart}
use Rattle.rules_image.proofs.Disjoint.{beyond, refuted, static_apart}
use Rattle.rules_image.proofs.StaticLaws.{apart_of, static_of}
use Rattle.rules_image.proofs.statics.shaped_holds.Goals as goal

pub returns-in_default : goal.returns-in_default
returns-in_default c = refuted (λ h. beyond c.args.image.now.size
    (c.args.x.now.place + extent c.args.x.now c.args.s.now) c.in_default.ensures.none h.free.inside)

pub is_static_apart-requires : goal.is_static_apart-requires
is_static_apart-requires c = record {
  there = c.requires.there;
  size = let h = c.in-Some.ensures.some.1 in omega arith;
  apart = λ e.
      subst (λ n. IsStaticApart c.args.notes.now c.args.number c.args.x.now.place n) (sym c.in-Some.ensures.some.0)
      (static_apart c.args.notes.now c.args.number c.args.x.now c.args.s.now (c.requires.apart e) c.requires.there c.requires.shape);
}

pub returns-then-not-is_static_apart : goal.returns-then-not-is_static_apart
returns-then-not-is_static_apart c =
    refuted (λ h.
    let yes = c.is_static_apart.ensures.1 (subst (λ n. IsStaticApart c.args.notes.now c.args.number c.args.x.now.place n)
    (sym c.in-Some.ensures.some.0) (apart_of c.args.image.now c.args.notes.now c.args.number c.args.x.now c.args.s.now h)) in
    let is = c.if-not-is_static_apart.true in
    cc)

pub has_content-requires-clause-there : goal.has_content-requires-clause-there
has_content-requires-clause-there c = (
  c.args.number,
  slice_get_within c.args.notes.now.statics c.args.number c.args.x.now c.requires.there,
  get_or_from_slice_get c.args.notes.now.statics c.args.number c.args.x.now c.args.x.now c.requires.there,
)

pub returns : goal.returns
returns c = (
  λ e. static_of c.args.image.now c.args.notes.now c.args.number c.args.x.now c.args.s.now
      (subst (λ n. c.args.x.now.place + n ≤ c.args.image.now.size) c.in-Some.ensures.some.0 c.in-Some.ensures.some.1)
      (subst (λ n. IsStaticApart c.args.notes.now c.args.number c.args.x.now.place n) c.in-Some.ensures.some.0
      (c.is_static_apart.ensures.0 c.if-not-is_static_apart.false))
      (c.has_content.ensures.0 e),
  λ h. c.has_content.ensures.1 h.content,
)
