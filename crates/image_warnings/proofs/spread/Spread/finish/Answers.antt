use Rattle.std.proofs.Common.{◌≡◌, ◌<◌, arith, length, refl, sym}
use Rattle.std.specs.Prelude.{Some, slice_get}
use Rattle.std.proofs.lemmas.Option.{slice_get_read}
use Rattle.image_warnings.proofs.SpreadLaws.{all_reached, extends_length, followed_more, still_reached}
use Rattle.image_warnings.proofs.UncutLaws.{uncut_first, uncut_within}
use Rattle.image_warnings.specs.Uncut.{way_of}
use Rattle.image_warnings.proofs.spread.Spread.finish.Goals as goal

pub follow_at-requires-clause-first : goal.follow_at-requires-clause-first
follow_at-requires-clause-first c =
    let place = c.index-place.result.now in
    let less : c.loop-followed.followed < length c.loop-followed.self.reached.items =
    let long = c.len.ensures in let test = c.loop-followed-test.true in omega arith in
    uncut_first c.args.walk.now.image.now c.args.walk.now.f.now (way_of c.args.walk.now.notes.now c.args.above) place
    (c.loop-followed.invariant.spread.uncut place (c.loop-followed.followed, less, sym c.index-place.ensures))

pub follow_at-requires-clause-within : goal.follow_at-requires-clause-within
follow_at-requires-clause-within c =
    let place = c.index-place.result.now in
    let less : c.loop-followed.followed < length c.loop-followed.self.reached.items =
    let long = c.len.ensures in let test = c.loop-followed-test.true in omega arith in
    uncut_within c.args.walk.now.image.now c.args.walk.now.f.now (way_of c.args.walk.now.notes.now c.args.above) place
    (c.loop-followed.invariant.spread.uncut place (c.loop-followed.followed, less, sym c.index-place.ensures))

pub loop-followed-preserved : goal.loop-followed-preserved
loop-followed-preserved c =
    let w = c.args.walk.now in
    let i = c.loop-followed.invariant in
    let old = c.loop-followed.self.reached.items in
    let new = c.follow_at.new.self.reached.items in
    let less : c.loop-followed.followed < length old = let long = c.len.ensures in let test = c.loop-followed-test.true in omega arith in
    let at : slice_get old c.loop-followed.followed ≡ Some c.index-place.result.now =
    slice_get_read old (length old) c.loop-followed.followed c.index-place.result.now refl less c.index-place.ensures in
    record {
      spread = c.in_ok-follow_at.ensures.spread;
      calls = λ q h. still_reached old new q c.in_ok-follow_at.ensures.more (i.calls q h);
      followed = followed_more w.image.now w.f.now (way_of w.notes.now c.args.above) c.loop-followed.followed c.index-place.result.now
          old new at
          c.in_ok-follow_at.ensures.more i.followed c.in_ok-follow_at.ensures.followed;
      within = let long = extends_length old new c.in_ok-follow_at.ensures.more in omega arith;
    }

pub returns-clause-whole : goal.returns-clause-whole
returns-clause-whole c =
    let w = c.args.walk.now in
    all_reached w.image.now w.f.now (way_of w.notes.now c.args.above) c.loop-followed.followed c.loop-followed.self.reached.items
    (let long = c.len.ensures in let test = c.loop-followed-test.false in omega arith)
    c.loop-followed.invariant.calls c.loop-followed.invariant.followed
