use Rattle.protocol_script.proofs.Common.{refl}
use Rattle.protocol_script.proofs.LimitLaws.{made-kept, made-load, made-lost}
use Rattle.protocol_script.proofs.limits.made_limit.Goals as goal

pub returns-in-Some-clause-limit : goal.returns-in-Some-clause-limit
returns-in-Some-clause-limit c =
    let e = made-kept c.args.notes.now c.args.script.now c.as_slice.result.now c.as_slice.ensures c.args.index c.index-as_slice-index.result
    (rw c.as_slice.ensures c.requires.within) c.index-as_slice-index.is c.as_slice-2.result.now c.as_slice-2.ensures c.args.load
    c.requires.load c.in-Some.load c.in-Some.ensures.room c.in-Some.ensures.objects c.in-Some.ensures.within in
    rw e refl

pub returns-in-Some-clause-load : goal.returns-in-Some-clause-load
returns-in-Some-clause-load c =
    made-load c.args.notes.now c.args.script.now c.as_slice.result.now c.as_slice.ensures c.args.index c.index-as_slice-index.result
    (rw c.as_slice.ensures c.requires.within) c.index-as_slice-index.is c.as_slice-2.result.now c.as_slice-2.ensures c.args.load
    c.requires.load c.in-Some.load c.in-Some.ensures.room c.in-Some.ensures.objects c.in-Some.ensures.within

pub returns-in_ok-refused_at-in-None-clause-limit : goal.returns-in_ok-refused_at-in-None-clause-limit
returns-in_ok-refused_at-in-None-clause-limit c =
    let e = made-lost c.args.notes.now c.args.script.now c.as_slice.result.now c.as_slice.ensures c.args.index c.index-as_slice-index.result
    (rw c.as_slice.ensures c.requires.within) c.index-as_slice-index.is c.as_slice-2.result.now c.as_slice-2.ensures c.args.load
    c.requires.load c.in-None.ensures.past in
    rw (c.in_ok-refused_at-in-None.ensures, e) refl
