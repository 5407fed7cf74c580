use Rattle.native_host.proofs.Common.{◌≡◌, ◌&&◌, true, false, [], map, Some, refl, sym, ap, ap₂, ◌∙◌, option_copied, flat_map}
use Rattle.native_host.proofs.Common.{option_map_or, Signature, with_memory, ranges, saved_of, out_store, reply_fits, reply_stores}
use Rattle.native_host.proofs.Common.{signature_params, write_store, after_stores, performed, written_number, host_world, shown, top_slots}
use Rattle.native_host.proofs.Common.{placement_of, are_mapped}
use Rattle.native_host.proofs.{ReplyLaws.reply-by, ReplyLaws.stored-all, StepLaws.ends-by, StepLaws.performed-replies, StepLaws.step-by}
use Rattle.native_host.proofs.TopLaws.{copied-slots, marked-none}
use Rattle.native_host.specs.declared.step.HostStep.TheVariants as step
use Rattle.native_host.proofs.host.Host.reply.Goals as goal

pub returns-then-not-reply_fits-clause-step : goal.returns-then-not-reply_fits-clause-step
returns-then-not-reply_fits-clause-step g c =
    step-by (written_number g.row.W c.args.notes.now (placement_of c.args.self.now.places) c.args.self.now.made.items) _ _ _
    (reply-by c.args.notes.now c.args.self.now.made.items c.args.entry (are_mapped g.row.W c.args.notes.now (placement_of
    c.args.self.now.places) c.args.self.now.made.items (ranges c.args.mem.now) c.args.call.now.write) c.args.call.now false (ap (λ b. b &&
    (are_mapped g.row.W c.args.notes.now (placement_of c.args.self.now.places) c.args.self.now.made.items (ranges c.args.mem.now)
    c.args.call.now.write)) (ap (λ made. reply_fits c.args.notes.now made c.args.call.now) (sym c.as_slice.ensures.value)
    ∙ (sym c.reply_fits.ensures ∙ c.if-not-reply_fits.true)))) refl

pub returns-then-not-are_mapped-clause-step : goal.returns-then-not-are_mapped-clause-step
returns-then-not-are_mapped-clause-step g c =
    step-by (written_number g.row.W c.args.notes.now (placement_of c.args.self.now.places) c.args.self.now.made.items) _ _ _
    (reply-by c.args.notes.now c.args.self.now.made.items c.args.entry (are_mapped g.row.W c.args.notes.now (placement_of
    c.args.self.now.places) c.args.self.now.made.items (ranges c.args.mem.now) c.args.call.now.write) c.args.call.now false (ap₂ (λ a b. a
    && b) (ap (λ made. reply_fits c.args.notes.now made c.args.call.now) (sym c.as_slice.ensures.value) ∙ (sym c.reply_fits.ensures
    ∙ c.if-not-reply_fits.false)) (ap (λ vs. are_mapped g.row.W c.args.notes.now (placement_of c.args.self.now.places)
    c.args.self.now.made.items (ranges c.args.mem.now) vs) (sym c.as_slice-2.ensures) ∙ (sym c.are_mapped.ensures
    ∙ c.if-not-are_mapped.true)))) refl

pub returns-then-not-reply_fits-clause-after : goal.returns-then-not-reply_fits-clause-after
returns-then-not-reply_fits-clause-after g c script r made =
    ends-by g.row.W (host_world c.args.notes.now script c.args.self.now) (placement_of c.args.self.now.places) (shown c.args.self.now
    c.args.mem.now (map saved_of c.args.frames.now) r) _ _
    (reply-by c.args.notes.now c.args.self.now.made.items c.args.entry (are_mapped g.row.W c.args.notes.now (placement_of
    c.args.self.now.places) c.args.self.now.made.items (ranges c.args.mem.now) c.args.call.now.write) c.args.call.now false (ap (λ b. b &&
    (are_mapped g.row.W c.args.notes.now (placement_of c.args.self.now.places) c.args.self.now.made.items (ranges c.args.mem.now)
    c.args.call.now.write)) (ap (λ made. reply_fits c.args.notes.now made c.args.call.now) (sym c.as_slice.ensures.value)
    ∙ (sym c.reply_fits.ensures ∙ c.if-not-reply_fits.true))))

pub returns-then-not-are_mapped-clause-after : goal.returns-then-not-are_mapped-clause-after
returns-then-not-are_mapped-clause-after g c script r made =
    ends-by g.row.W (host_world c.args.notes.now script c.args.self.now) (placement_of c.args.self.now.places) (shown c.args.self.now
    c.args.mem.now (map saved_of c.args.frames.now) r) _ _
    (reply-by c.args.notes.now c.args.self.now.made.items c.args.entry (are_mapped g.row.W c.args.notes.now (placement_of
    c.args.self.now.places) c.args.self.now.made.items (ranges c.args.mem.now) c.args.call.now.write) c.args.call.now false (ap₂ (λ a b. a
    && b) (ap (λ made. reply_fits c.args.notes.now made c.args.call.now) (sym c.as_slice.ensures.value) ∙ (sym c.reply_fits.ensures
    ∙ c.if-not-reply_fits.false)) (ap (λ vs. are_mapped g.row.W c.args.notes.now (placement_of c.args.self.now.places)
    c.args.self.now.made.items (ranges c.args.mem.now) vs) (sym c.as_slice-2.ensures) ∙ (sym c.are_mapped.ensures
    ∙ c.if-not-are_mapped.true))))

pub returns-clause-step : goal.returns-clause-step
returns-clause-step g c =
    step-by (written_number g.row.W c.args.notes.now (placement_of c.args.self.now.places) c.args.self.now.made.items) _ _ _
    (reply-by c.args.notes.now c.args.self.now.made.items c.args.entry (are_mapped g.row.W c.args.notes.now (placement_of
    c.args.self.now.places) c.args.self.now.made.items (ranges c.args.mem.now) c.args.call.now.write) c.args.call.now true (ap₂ (λ a b. a
    && b) (ap (λ made. reply_fits c.args.notes.now made c.args.call.now) (sym c.as_slice.ensures.value) ∙ (sym c.reply_fits.ensures
    ∙ c.if-not-reply_fits.false)) (ap (λ vs. are_mapped g.row.W c.args.notes.now (placement_of c.args.self.now.places)
    c.args.self.now.made.items (ranges c.args.mem.now) vs) (sym c.as_slice-2.ensures) ∙ (sym c.are_mapped.ensures
    ∙ c.if-not-are_mapped.false)))) (ap (λ n. Some (step.Reply n)) (sym (c.number_of.ensures c.args.notes.now c.requires.notes)))

pub returns-clause-after : goal.returns-clause-after
returns-clause-after g c script r made =
    let params : signature_params c.args.notes.now c.args.call.now.signature ≡ c.as_slice-4.result.now =
    ap (λ o. option_map_or (λ (s : Signature). s.params) o []) (sym (ap option_copied (sym c.in-Some.is) ∙ c.item_at.ensures))
    ∙ sym c.as_slice-4.ensures in
    let stored : after_stores g.row.W c.args.notes.now (placement_of c.args.self.now.places) c.args.self.now.made.items (top_slots
    c.args.frames.now)
    (reply_stores c.args.notes.now c.args.self.now.made.items (signature_params c.args.notes.now c.args.call.now.signature) c.args.call.now)
    (with_memory r.machine c.args.mem.now) ≡ with_memory r.machine c.write_outs.new.mem =
    stored-all g.row.W c.args.notes.now (placement_of c.args.self.now.places) c.args.self.now.made.items (top_slots c.args.frames.now)
    (signature_params c.args.notes.now c.args.call.now.signature) c.args.call.now r.machine c.args.mem.now c.write_all.new.mem
    c.write_outs.new.mem
    (ap (λ vs. after_stores g.row.W c.args.notes.now (placement_of c.args.self.now.places) c.args.self.now.made.items (top_slots
    c.args.frames.now) (flat_map (write_store c.args.notes.now c.args.self.now.made.items) vs) (with_memory r.machine c.args.mem.now)) (sym
    c.as_slice-3.ensures)
    ∙ c.write_all.ensures.after r.machine (top_slots c.args.frames.now))
    (ap₂ (λ ps os. after_stores g.row.W c.args.notes.now (placement_of c.args.self.now.places) c.args.self.now.made.items (top_slots
    c.args.frames.now) (flat_map (out_store ps) os) (with_memory r.machine c.write_all.new.mem)) params (sym c.as_slice-5.ensures)
    ∙ c.write_outs.ensures.after r.machine) in
    ap (performed g.row.W (host_world c.args.notes.now script c.args.self.now) (placement_of c.args.self.now.places) (shown c.args.self.now
    c.args.mem.now (map saved_of c.args.frames.now) r))
    (reply-by c.args.notes.now c.args.self.now.made.items c.args.entry (are_mapped g.row.W c.args.notes.now (placement_of
    c.args.self.now.places) c.args.self.now.made.items (ranges c.args.mem.now) c.args.call.now.write) c.args.call.now true (ap₂ (λ a b. a
    && b) (ap (λ made. reply_fits c.args.notes.now made c.args.call.now) (sym c.as_slice.ensures.value) ∙ (sym c.reply_fits.ensures
    ∙ c.if-not-reply_fits.false)) (ap (λ vs. are_mapped g.row.W c.args.notes.now (placement_of c.args.self.now.places)
    c.args.self.now.made.items (ranges c.args.mem.now) vs) (sym c.as_slice-2.ensures) ∙ (sym c.are_mapped.ensures
    ∙ c.if-not-are_mapped.false))))
    ∙ performed-replies g.row.W (host_world c.args.notes.now script c.args.self.now) (placement_of c.args.self.now.places) (shown
    c.args.self.now c.args.mem.now (map saved_of c.args.frames.now) r) _ _ _ _ (with_memory r.machine c.write_outs.new.mem) _ _
    c.number_of.result
    (ap₂ (λ ms slots. after_stores g.row.W c.args.notes.now (placement_of c.args.self.now.places) ms slots
    (reply_stores c.args.notes.now c.args.self.now.made.items (signature_params c.args.notes.now c.args.call.now.signature) c.args.call.now)
    (with_memory r.machine c.args.mem.now)) (sym made) (copied-slots c.args.frames.now c.requires.called) ∙ stored)
    (ap (map saved_of) c.set_mark.ensures.after ∙ marked-none c.args.frames.now)
    c.tell.ensures.items
    (c.number_of.ensures c.args.notes.now c.requires.notes
    ∙ ap (λ ms. written_number g.row.W c.args.notes.now (placement_of c.args.self.now.places) ms c.args.call.now.result) made)
