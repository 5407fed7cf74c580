use Rattle.native_host.proofs.Common.{◌≡◌, ◌+◌, length, slice_get, sym, ap, ap₂, subst, ◌∙◌, arith, IsOf}
use Rattle.native_host.proofs.ComingLaws.{made_last}
use Rattle.native_host.proofs.host.Host.make_objects.Goals as goal

pub fill_objects-requires : goal.fill_objects-requires
fill_objects-requires g c =
    let first : c.count_made-first.result ≡ length c.args.self.now.made.items = c.count_made-first.ensures in
    let few = c.requires.few in (
      omega arith,
      (
        omega arith,
        (
          c.requires.width,
          (
            subst (λ p. IsOf g.row.W c.args.notes.now p) (sym (ap (λ h. h.places) c.place_objects.ensures.same)) c.requires.notes,
            (
              (λ k o here.
                  ap₂ (λ ts x. slice_get ts (x + k)) c.place_objects.ensures.made first
                  ∙ made_last c.args.self.now.made.items c.args.objects.now k o here),
              omega (arith, first, few),
            ),
          ),
        ),
      ),
    )
