use Rattle.native_host.proofs.Common.{◌≡◌, length, refl, sym, ap, ◌∙◌, arith, option_copied, byte_at, memory_state, with_arguments, Asks}
use Rattle.native_host.proofs.Common.{arguments_read, slots_from, placement_of}
use Rattle.callex_thunk.specs.declared.ThunkFault.{ThunkFault}
use Rattle.std.specs.Prelude.{Err}
use Rattle.callex_thunk.proofs.FrameLaws.{with_arguments-none}
use Rattle.native_host.proofs.AskingLaws.{arguments-length, asks-all, asks-none, asks-unmapped, copied-all, copied-none, copied-parts}
use Rattle.native_host.proofs.AskingLaws.{read-top, slots-count, slots-none, there-is}
use Rattle.callex_thunk.specs.declared.ThunkFault.TheVariants as fault
use Rattle.native_host.proofs.host.Host.asking.Goals as goal

-- there is no other fault
only-stack : (e : ThunkFault) → e ≡ fault.Stack
only-stack fault.Stack = refl

pub returns-in_default-clause-asks : goal.returns-in_default-clause-asks
returns-in_default-clause-asks g c world r same zero objects byte made =
    sym (asks-none g.row.W world (placement_of c.args.self.now.places) r c.args.place c.args.target c.args.notes.now same
    (sym c.in_default.is ∙ c.site_of.ensures.site))

pub returns-in_default-clause-slots : goal.returns-in_default-clause-slots
returns-in_default-clause-slots g c world r same zero objects byte =
    sym (ap (λ xs. with_arguments xs c.args.frames.now)
    (slots-none g.row.W world (placement_of c.args.self.now.places) r c.args.place c.args.target c.args.notes.now same
    (sym c.in_default.is ∙ c.site_of.ensures.site))
    ∙ with_arguments-none c.args.frames.now)

pub unreachable-requires : goal.unreachable-requires
unreachable-requires g c =
    there-is c.args.notes.now.signature c.in-Some.number (sym c.item_at.ensures ∙ ap option_copied c.in_default-item_at.is)
    c.in-Some.ensures.known

pub gather-requires : goal.gather-requires
gather-requires g c = (
  omega arith,
  (
    c.requires.width,
    (
      c.requires.frame,
      (c.requires.read.signatures c.in-Some.number c.in-Some-item_at.signature.now
          (sym (ap option_copied (sym c.in-Some-item_at.is) ∙ c.item_at.ensures))).few,
    ),
  ),
)

pub returns-in-Err-Stack-clause-asks : goal.returns-in-Err-Stack-clause-asks
returns-in-Err-Stack-clause-asks g c world r same zero objects byte made =
    sym (asks-unmapped g.row.W world (placement_of c.args.self.now.places) r c.args.place c.args.target c.args.notes.now
    c.in-Some.number c.args.r0 c.args.mem.now c.in-Some-item_at.signature.now same (sym c.in-Some.is ∙ c.site_of.ensures.site)
    (sym (ap option_copied (sym c.in-Some-item_at.is) ∙ c.item_at.ensures)) zero objects byte
    (c.gather.ensures.stack.0 (c.in-Err-Stack.is ∙ ap Err (only-stack c.in-Err-Stack.field-0))))

pub returns-in-Err-Stack-clause-slots : goal.returns-in-Err-Stack-clause-slots
returns-in-Err-Stack-clause-slots g c world r same zero objects byte =
    c.in-Err-Stack.ensures.same
    ∙ sym (ap (λ xs. with_arguments xs c.args.frames.now)
    (copied-none g.row.W world (placement_of c.args.self.now.places) r c.args.place c.args.target c.args.notes.now
    c.in-Some.number c.args.r0 c.args.mem.now c.in-Some-item_at.signature.now same (sym c.in-Some.is ∙ c.site_of.ensures.site)
    (sym (ap option_copied (sym c.in-Some-item_at.is) ∙ c.item_at.ensures)) zero objects byte
    (c.gather.ensures.stack.0 (c.in-Err-Stack.is ∙ ap Err (only-stack c.in-Err-Stack.field-0))))
    ∙ with_arguments-none c.args.frames.now)

pub arguments-requires : goal.arguments-requires
arguments-requires g c =
    let parts = copied-parts (slots_from g.row.W (memory_state c.args.mem.now) c.args.r0 c.in-Some-item_at.signature.now.params)
    (λ xs. c.gather.new.frames ≡ with_arguments xs c.args.frames.now) c.in-Ok.ensures.copied in
    let same : length c.gather.new.frames ≡ length c.args.frames.now = ap length parts.2 ∙ arguments-length parts.0 c.args.frames.now in
    let few = (c.requires.read.signatures c.in-Some.number c.in-Some-item_at.signature.now
    (sym (ap option_copied (sym c.in-Some-item_at.is) ∙ c.item_at.ensures))).few in
    let count = ap length c.as_slice.ensures in (
      omega arith,
      (
        omega arith,
        (
          c.requires.width,
          (
            c.requires.notes,
            (
              c.requires.stack,
              (omega (arith, same, c.requires.frame), omega (arith, few, count)),
            ),
          ),
        ),
      ),
    )

pub returns-in-Ok-clause-asks : goal.returns-in-Ok-clause-asks
returns-in-Ok-clause-asks g c world r same zero objects byte made =
    let parts = copied-parts (slots_from g.row.W (memory_state c.args.mem.now) c.args.r0 c.in-Some-item_at.signature.now.params)
    (λ xs. c.gather.new.frames ≡ with_arguments xs c.args.frames.now) c.in-Ok.ensures.copied in
    ap (λ e. Asks c.in-Some.number e c.arguments.result) c.elsewhere.ensures
    ∙ sym (asks-all g.row.W world (placement_of c.args.self.now.places) r c.args.place c.args.target c.args.notes.now
    c.in-Some.number c.args.r0 c.args.mem.now c.in-Some-item_at.signature.now c.args.self.now.made.items parts.0 c.arguments.result same
    (sym c.in-Some.is ∙ c.site_of.ensures.site)
    (sym (ap option_copied (sym c.in-Some-item_at.is) ∙ c.item_at.ensures)) zero objects byte made parts.1
    (read-top g.row.W c.args.notes.now (placement_of c.args.self.now.places) c.args.self.now.made.items (byte_at c.args.mem.now)
    c.args.frames.now c.gather.new.frames c.in-Some-item_at.signature.now.params parts.0 c.arguments.result c.requires.frame parts.2
    (slots-count g.row.W (memory_state c.args.mem.now) c.args.r0 c.in-Some-item_at.signature.now.params parts.0 parts.1)
    (λ f there. c.arguments.ensures f there
    ∙ ap (λ ps. arguments_read g.row.W c.args.notes.now (placement_of c.args.self.now.places) c.args.self.now.made.items
    (byte_at c.args.mem.now) ps f.slots) c.as_slice.ensures)))

pub returns-in-Ok-clause-slots : goal.returns-in-Ok-clause-slots
returns-in-Ok-clause-slots g c world r same zero objects byte =
    let parts = copied-parts (slots_from g.row.W (memory_state c.args.mem.now) c.args.r0 c.in-Some-item_at.signature.now.params)
    (λ xs. c.gather.new.frames ≡ with_arguments xs c.args.frames.now) c.in-Ok.ensures.copied in
    parts.2
    ∙ sym (ap (λ xs. with_arguments xs c.args.frames.now)
    (copied-all g.row.W world (placement_of c.args.self.now.places) r c.args.place c.args.target c.args.notes.now
    c.in-Some.number c.args.r0 c.args.mem.now c.in-Some-item_at.signature.now parts.0 same (sym c.in-Some.is ∙ c.site_of.ensures.site)
    (sym (ap option_copied (sym c.in-Some-item_at.is) ∙ c.item_at.ensures)) zero objects byte parts.1))

pub returns-in-Ok-clause-len : goal.returns-in-Ok-clause-len
returns-in-Ok-clause-len g c =
    let parts = copied-parts (slots_from g.row.W (memory_state c.args.mem.now) c.args.r0 c.in-Some-item_at.signature.now.params)
    (λ xs. c.gather.new.frames ≡ with_arguments xs c.args.frames.now) c.in-Ok.ensures.copied in
    ap length parts.2 ∙ arguments-length parts.0 c.args.frames.now
