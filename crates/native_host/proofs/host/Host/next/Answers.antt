use Rattle.native_host.proofs.Common.{map, refl, sym, ap, ◌∙◌, arith, option_copied, slice_get_within, saved_of, performed, written_number}
use Rattle.native_host.proofs.Common.{callbacks_of, host_world, shown, placement_of, step_of}
use Rattle.native_host.proofs.ReplyLaws.{element-sum, goes-enter, goes-none, goes-reply, seen-goes}
use Rattle.native_host.proofs.{StepLaws.ends-by, StepLaws.step-by}
use Rattle.native_host.proofs.host.Host.next.Goals as goal

pub returns-in_default-clause-step : goal.returns-in_default-clause-step
returns-in_default-clause-step g c r v seen =
    let world = host_world c.args.notes.now c.args.script.now c.args.self.now in
    let P = placement_of c.args.self.now.places in
    let at = shown c.args.self.now c.args.mem.now (map saved_of c.args.frames.now) r in
    let goes = seen-goes g.row.W world P c.args.self.now c.args.mem.now c.args.frames.now r v c.requires.called _ _
    c.mark-entry.ensures.entry c.mark-entry.ensures.callback seen in
    step-by (written_number g.row.W c.args.notes.now P c.args.self.now.made.items) _ _ _
    (goes-none world at.script v _ _ _ _ goes (ap option_copied (sym c.in_default.is) ∙ c.item_at.ensures)) refl

pub returns-in_default-clause-after : goal.returns-in_default-clause-after
returns-in_default-clause-after g c r v seen =
    let world = host_world c.args.notes.now c.args.script.now c.args.self.now in
    let P = placement_of c.args.self.now.places in
    let at = shown c.args.self.now c.args.mem.now (map saved_of c.args.frames.now) r in
    let goes = seen-goes g.row.W world P c.args.self.now c.args.mem.now c.args.frames.now r v c.requires.called _ _
    c.mark-entry.ensures.entry c.mark-entry.ensures.callback seen in
    ends-by g.row.W world P at _ _
    (goes-none world at.script v _ _ _ _ goes (ap option_copied (sym c.in_default.is) ∙ c.item_at.ensures))

pub enter_next-requires : goal.enter_next-requires
enter_next-requires g c =
    let below = slice_get_within c.in-Some.call.now.enter c.mark-entry.result.1 c.in-Some-item_at.next.now (sym (ap option_copied (sym
    c.in-Some-item_at.is) ∙ c.item_at-2.ensures)) in
    let few = (c.requires.serving.scripted.calls c.mark-entry.result.0 c.in-Some.call.now (sym (ap option_copied (sym c.in-Some.is)
    ∙ c.item_at.ensures))).callbacks in
    let part = element-sum callbacks_of c.args.script.now.call c.mark-entry.result.0 c.in-Some.call.now (sym (ap option_copied (sym
    c.in-Some.is) ∙ c.item_at.ensures)) in (
      omega arith,
      (
        c.requires.serving.read,
        (
          c.requires.room,
          (
            c.requires.called,
            (
              c.mark-entry.ensures.entry,
              (
                c.mark-entry.ensures.callback,
                omega (
                  arith,
                  below,
                  few,
                  part,
                ),
              ),
            ),
          ),
        ),
      ),
    )

pub reply-requires : goal.reply-requires
reply-requires g c =
    let known = (c.requires.serving.scripted.calls c.mark-entry.result.0 c.in-Some.call.now (sym (ap option_copied (sym c.in-Some.is)
    ∙ c.item_at.ensures))).signature in (
      omega arith,
      (omega arith, (c.requires.width, (c.requires.serving.host.notes, (known, (c.requires.room, c.requires.called))))),
    )

pub returns-in-Some-item_at-clause-step : goal.returns-in-Some-item_at-clause-step
returns-in-Some-item_at-clause-step g c r v seen =
    let world = host_world c.args.notes.now c.args.script.now c.args.self.now in
    let P = placement_of c.args.self.now.places in
    let at = shown c.args.self.now c.args.mem.now (map saved_of c.args.frames.now) r in
    let goes = seen-goes g.row.W world P c.args.self.now c.args.mem.now c.args.frames.now r v c.requires.called _ _
    c.mark-entry.ensures.entry c.mark-entry.ensures.callback seen in
    c.enter_next.ensures.step (written_number g.row.W c.args.notes.now P c.args.self.now.made.items)
    ∙ sym (ap (step_of (written_number g.row.W c.args.notes.now P c.args.self.now.made.items))
    (goes-enter world at.script c.args.self.now.made.items v _ _ _ _ c.in-Some.call.now c.in-Some-item_at.next.now goes
    (ap option_copied (sym c.in-Some.is) ∙ c.item_at.ensures) (ap option_copied (sym c.in-Some-item_at.is) ∙ c.item_at-2.ensures)
    c.requires.serving.host.made))

pub returns-in-Some-item_at-clause-after : goal.returns-in-Some-item_at-clause-after
returns-in-Some-item_at-clause-after g c r v seen =
    let world = host_world c.args.notes.now c.args.script.now c.args.self.now in
    let P = placement_of c.args.self.now.places in
    let at = shown c.args.self.now c.args.mem.now (map saved_of c.args.frames.now) r in
    let goes = seen-goes g.row.W world P c.args.self.now c.args.mem.now c.args.frames.now r v c.requires.called _ _
    c.mark-entry.ensures.entry c.mark-entry.ensures.callback seen in
    ap (performed g.row.W world P at)
    (goes-enter world at.script c.args.self.now.made.items v _ _ _ _ c.in-Some.call.now c.in-Some-item_at.next.now goes
    (ap option_copied (sym c.in-Some.is) ∙ c.item_at.ensures) (ap option_copied (sym c.in-Some-item_at.is) ∙ c.item_at-2.ensures)
    c.requires.serving.host.made)
    ∙ c.enter_next.ensures.after c.args.script.now r c.args.mem.now c.requires.serving.host.made

pub returns-in-None-clause-step : goal.returns-in-None-clause-step
returns-in-None-clause-step g c r v seen =
    let world = host_world c.args.notes.now c.args.script.now c.args.self.now in
    let P = placement_of c.args.self.now.places in
    let at = shown c.args.self.now c.args.mem.now (map saved_of c.args.frames.now) r in
    let goes = seen-goes g.row.W world P c.args.self.now c.args.mem.now c.args.frames.now r v c.requires.called _ _
    c.mark-entry.ensures.entry c.mark-entry.ensures.callback seen in
    c.reply.ensures.step ∙ sym (ap (step_of (written_number g.row.W c.args.notes.now P c.args.self.now.made.items))
    (goes-reply g.row.W world P c.args.self.now c.args.mem.now (map saved_of c.args.frames.now) r v _ _ _ c.in-Some.call.now goes
    (ap option_copied (sym c.in-Some.is) ∙ c.item_at.ensures) (ap option_copied (sym c.in-None.is) ∙ c.item_at-2.ensures)
    c.requires.serving.host.made))

pub returns-in-None-clause-after : goal.returns-in-None-clause-after
returns-in-None-clause-after g c r v seen =
    let world = host_world c.args.notes.now c.args.script.now c.args.self.now in
    let P = placement_of c.args.self.now.places in
    let at = shown c.args.self.now c.args.mem.now (map saved_of c.args.frames.now) r in
    let goes = seen-goes g.row.W world P c.args.self.now c.args.mem.now c.args.frames.now r v c.requires.called _ _
    c.mark-entry.ensures.entry c.mark-entry.ensures.callback seen in
    ap (performed g.row.W world P at)
    (goes-reply g.row.W world P c.args.self.now c.args.mem.now (map saved_of c.args.frames.now) r v _ _ _ c.in-Some.call.now goes
    (ap option_copied (sym c.in-Some.is) ∙ c.item_at.ensures) (ap option_copied (sym c.in-None.is) ∙ c.item_at-2.ensures)
    c.requires.serving.host.made)
    ∙ c.reply.ensures.after c.args.script.now r c.requires.serving.host.made
