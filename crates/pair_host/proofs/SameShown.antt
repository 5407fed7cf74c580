-- Events of a pair are one exactly where `==` says so.
use Rattle.pair_host.proofs.Common.{◌≡◌, true, refl, ap, subst, false≢true, PairEvent}
use Rattle.std.proofs.Common.{Decides}
use Rattle.pair_model.specs.contracts.event.PairEventPartialEq.TheImpl.{ghosts as pair_events}
use Rattle.twin_run.proofs.SameEvents.{Decides-event, value-equal, value-refl}
use Rattle.pair_model.specs.declared.event.PairEvent.TheVariants as pair_event

pair-equal : (a b : PairEvent) → pair_events.eq a b ≡ true → a ≡ b
pair-equal (pair_event.A a) (pair_event.A b) h = ap pair_event.A ((Decides-event a b).0 h)
pair-equal (pair_event.B a) (pair_event.B b) h = ap pair_event.B ((Decides-event a b).0 h)
pair-equal (pair_event.Bound v) (pair_event.Bound u) h = ap pair_event.Bound (value-equal v u h)
pair-equal _ _ h = absurd (false≢true h)

pair-refl : (a : PairEvent) → pair_events.eq a a ≡ true
pair-refl (pair_event.A a) = (Decides-event a a).1 refl
pair-refl (pair_event.B a) = (Decides-event a a).1 refl
pair-refl (pair_event.Bound v) = value-refl v

pub Decides-pair_event : (a b : PairEvent) → Decides (pair_events.eq a b) (a ≡ b)
Decides-pair_event a b = let P : PairEvent → Type 0 = λ e. pair_events.eq a e ≡ true in (pair-equal a b, λ e. subst P e (pair-refl a))
