use Rattle.note_infer.proofs.Common.{ℕ, ◌^◌, ◌<◌, arith, refl, slice_index, turned}
use Rattle.std.proofs.lemmas.Option.{MatchOption-at_some}
use Rattle.note_infer.proofs.Changing.{IsOwner, owned, owner_small}
use Rattle.note_infer.proofs.rounds.Rounds.turn.Goals as goal

pub overflow_cast-owner : goal.overflow_cast-owner
overflow_cast-owner c =
    let place : ℕ = slice_index c.args.self.now.leaders.now c.args.number in
    let small : c.owner.result < 2 ^ 32 =
    owner_small c.args.self.now.image.now c.args.self.now.notes.now c.args.self.now.marked.now c.args.self.now.leaders.now
    c.requires.setting c.owner.result place
    (owned c.args.self.now.image.now c.args.self.now.notes.now c.args.self.now.marked.now c.args.self.now.leaders.now
    c.requires.setting c.args.number c.owner.result place c.requires.within refl c.owner.ensures) in
    omega arith

pub returns-clause-turned : goal.returns-clause-turned
returns-clause-turned c =
    let place : ℕ = slice_index c.args.self.now.leaders.now c.args.number in
    let o : IsOwner c.args.self.now.notes.now c.owner.result place =
    owned c.args.self.now.image.now c.args.self.now.notes.now c.args.self.now.marked.now c.args.self.now.leaders.now
    c.requires.setting c.args.number c.owner.result place c.requires.within refl c.owner.ensures in
    turned (record { func = c.owner.result; place = place; state = c.in-Some.state })
    (record {
      place_is = refl;
      state_is = MatchOption-at_some _ _ _ c.in-Some.is c.in_ok-state.ensures.some;
      differs = MatchOption-at_some _ _ _ c.in-Some.is c.in_ok-state.ensures.differs;
      f = o.f;
      there = o.there;
      within = o.within;
    })
    c.in_ok-push.ensures.items
