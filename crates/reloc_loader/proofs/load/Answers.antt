use Rattle.reloc_loader.proofs.Common.{◌≡◌, ℕ, ◌+◌, ◌<◌, ◌≤◌, ◌^◌, List, length, take, get_or, true, arith, sym, subst, ◌∙◌, holds, ranges}
use Rattle.reloc_loader.proofs.Common.{Section, laid, within, distance_of}
use Rattle.std.proofs.lemmas.Bool.{true≢false}
use Rattle.object_memory.specs.Memory.{memory_filled}
use Rattle.object_memory.proofs.Laws.{memory_filled-with_bytes}
use Rattle.pe_image.specs.{Images.IsSection, Mapped.mapped}
use Rattle.reloc_loader.proofs.Mapping.{laid-step, moved-all, moved-start, moved-step, new_holds, object_byte, object_end, object_holds}
use Rattle.reloc_loader.proofs.Mapping.{object_others, place_fits, section_fits, zeros-step}
use Rattle.reloc_loader.proofs.load.Goals as goal

pub prove-unreachable-requires : goal.prove-unreachable-requires
prove-unreachable-requires g c =
    let at = c.requires.object (omega arith) in
    let start : c.args.base + 0 ≡ c.args.id.base = omega (arith, at.4) in
    let there : holds (ranges c.args.mem.now) (c.args.base + 0) c.args.image.now.size ≡ true =
    object_holds c.args.mem.now c.args.id c.args.base c.args.image.now.size 0 c.args.image.now.size at (omega arith) in
    let here : holds (ranges c.args.mem.now) c.args.id.base c.args.image.now.size ≡ true =
    subst (λ a. holds (ranges c.args.mem.now) a c.args.image.now.size ≡ true) start there in
    true≢false (sym here ∙ (sym c.holds-there.ensures.answer ∙ c.if-prove.true))

pub loop-section-init : goal.loop-section-init
loop-section-init g c =
    record {
      is = zeros-step g.row.W c.args.mem.now c.args.base c.args.image.now.size c.holds-there.ensures.memory
          (c.requires.zeros (omega arith));
      memory = c.holds-there.ensures.memory;
    }

pub overflow_add-base : goal.overflow_add-base
overflow_add-base g c =
    let sections : List Section = c.args.image.now.sections in
    let i : ℕ = c.loop-section.section-index in
    let s : Section = c.section-item.result in
    let items = c.as_slice-section-items.ensures in
    let inside : i < length sections = subst (λ xs. i < length xs) items c.loop-section-test.true in
    let is : s ≡ get_or sections i s = subst (λ xs. s ≡ get_or xs i s) items c.section-item.is in
    let fits : IsSection c.args.image.now.size s = section_fits sections c.args.image.now.size i s c.requires.image.sections inside is in
    let end : c.args.base + c.args.image.now.size < 2 ^ 64 =
    object_end g.row.W c.args.mem.now c.args.id c.args.base c.args.image.now.size c.holds-there.ensures.memory
    (c.requires.object (omega arith)) in
    let place : c.from.result ≡ s.place = c.from.ensures in
    omega (arith, fits.within)

pub loop-section-preserved : goal.loop-section-preserved
loop-section-preserved g c =
    let sections : List Section = c.args.image.now.sections in
    let i : ℕ = c.loop-section.section-index in
    let s : Section = c.section-item.result in
    let items = c.as_slice-section-items.ensures in
    let inside : i < length sections = subst (λ xs. i < length xs) items c.loop-section-test.true in
    let is : s ≡ get_or sections i s = subst (λ xs. s ≡ get_or xs i s) items c.section-item.is in
    let fits : IsSection c.args.image.now.size s = section_fits sections c.args.image.now.size i s c.requires.image.sections inside is in
    let end : c.args.base + c.args.image.now.size < 2 ^ 64 =
    object_end g.row.W c.args.mem.now c.args.id c.args.base c.args.image.now.size c.holds-there.ensures.memory
    (c.requires.object (omega arith)) in
    let place : c.from.result ≡ s.place = c.from.ensures in
    let bytes : c.as_slice.result.now ≡ s.bytes = c.as_slice.ensures in
    let before : ℕ → ℕ = within c.args.mem.now c.args.base c.args.image.now.size (laid (take i sections)) in
    let held : holds (ranges c.loop-section.mem) (c.args.base + s.place) (length s.bytes) ≡ true =
    new_holds c.args.mem.now c.loop-section.mem c.args.id c.args.base c.args.image.now.size before s.place (length s.bytes)
    (c.requires.object (omega arith)) c.loop-section.invariant.is (omega (arith, fits.bytes, fits.within)) in
    let after : c.fill.new.self ≡ memory_filled c.loop-section.mem (c.args.base + s.place) s.bytes =
    rw (← bytes, ← place) c.fill.ensures.after in
    record {
      is = laid-step c.args.mem.now c.loop-section.mem c.fill.new.self c.args.base c.args.image.now.size sections i s
          c.loop-section.invariant.is
          (after ∙ memory_filled-with_bytes c.args.mem.now c.loop-section.mem before
          (c.args.base + s.place) s.bytes c.loop-section.invariant.is held) c.requires.image.ascend inside is fits.bytes fits.within;
      memory = c.fill.ensures.memory;
    }

pub loop-place-init : goal.loop-place-init
loop-place-init g c =
    let all : length c.args.image.now.sections ≤ c.loop-section.section-index =
    subst (λ xs. length xs ≤ c.loop-section.section-index) c.as_slice-section-items.ensures c.loop-section-test.false in
    record {
      is = moved-start c.args.mem.now c.args.base c.args.image.now.size c.args.image.now.sections c.loop-section.section-index
          (distance_of c.args.base c.args.image.now.base) c.loop-section.mem c.loop-section.invariant.is all;
      memory = c.loop-section.invariant.memory;
    }

pub overflow_add-base-in-loop-place : goal.overflow_add-base-in-loop-place
overflow_add-base-in-loop-place g c =
    let places : List ℕ = c.args.image.now.relocs in
    let i : ℕ = c.loop-place.place-index in
    let p : ℕ = c.from-in-loop-place.result in
    let items = c.as_slice-place-items.ensures in
    let inside : i < length places = subst (λ xs. i < length xs) items c.loop-place-test.true in
    let is : p ≡ get_or places i 0 = subst (λ xs. p ≡ get_or xs i 0) items c.from-in-loop-place.ensures in
    let fits : p + 8 ≤ c.args.image.now.size = place_fits places c.args.image.now.size i p c.requires.image.relocated inside is in
    let end : c.args.base + c.args.image.now.size < 2 ^ 64 =
    object_end g.row.W c.args.mem.now c.args.id c.args.base c.args.image.now.size c.holds-there.ensures.memory
    (c.requires.object (omega arith)) in
    omega arith

pub relocate-requires : goal.relocate-requires
relocate-requires g c =
    let places : List ℕ = c.args.image.now.relocs in
    let i : ℕ = c.loop-place.place-index in
    let p : ℕ = c.from-in-loop-place.result in
    let items = c.as_slice-place-items.ensures in
    let inside : i < length places = subst (λ xs. i < length xs) items c.loop-place-test.true in
    let is : p ≡ get_or places i 0 = subst (λ xs. p ≡ get_or xs i 0) items c.from-in-loop-place.ensures in
    let fits : p + 8 ≤ c.args.image.now.size = place_fits places c.args.image.now.size i p c.requires.image.relocated inside is in
    let end : c.args.base + c.args.image.now.size < 2 ^ 64 =
    object_end g.row.W c.args.mem.now c.args.id c.args.base c.args.image.now.size c.holds-there.ensures.memory
    (c.requires.object (omega arith)) in (
      omega arith,
      new_holds c.args.mem.now c.loop-place.mem c.args.id c.args.base c.args.image.now.size _ p 8
          (c.requires.object (omega arith)) c.loop-place.invariant.is fits,
    )

pub loop-place-preserved : goal.loop-place-preserved
loop-place-preserved g c =
    let places : List ℕ = c.args.image.now.relocs in
    let i : ℕ = c.loop-place.place-index in
    let p : ℕ = c.from-in-loop-place.result in
    let items = c.as_slice-place-items.ensures in
    let inside : i < length places = subst (λ xs. i < length xs) items c.loop-place-test.true in
    let is : p ≡ get_or places i 0 = subst (λ xs. p ≡ get_or xs i 0) items c.from-in-loop-place.ensures in
    let fits : p + 8 ≤ c.args.image.now.size = place_fits places c.args.image.now.size i p c.requires.image.relocated inside is in
    let end : c.args.base + c.args.image.now.size < 2 ^ 64 =
    object_end g.row.W c.args.mem.now c.args.id c.args.base c.args.image.now.size c.holds-there.ensures.memory
    (c.requires.object (omega arith)) in
    record {
      is = moved-step c.args.mem.now c.loop-place.mem c.relocate.new.mem c.args.base c.args.image.now.size
          (laid c.args.image.now.sections) places (distance_of c.args.base c.args.image.now.base) i p c.loop-place.invariant.is
          c.relocate.ensures.becomes c.requires.image.apart inside is fits;
      memory = c.relocate.ensures.memory c.loop-place.invariant.memory;
    }

pub returns-clause-loaded : goal.returns-clause-loaded
unfolding mapped
returns-clause-loaded g c =
    let all : length c.args.image.now.relocs ≤ c.loop-place.place-index =
    subst (λ xs. length xs ≤ c.loop-place.place-index) c.as_slice-place-items.ensures c.loop-place-test.false in
    moved-all c.args.mem.now c.loop-place.mem c.args.base c.args.image.now.size
    (laid c.args.image.now.sections) c.args.image.now.relocs c.loop-place.place-index
    (distance_of c.args.base c.args.image.now.base) c.loop-place.invariant.is all

pub returns-clause-mapped : goal.returns-clause-mapped
returns-clause-mapped g c = λ x inside. object_byte c.args.mem.now c.loop-place.mem c.args.id c.args.base c.args.image.now.size
    (mapped c.args.image.now c.args.base) x (c.requires.object (omega arith)) (returns-clause-loaded g c) inside

pub returns-clause-others : goal.returns-clause-others
returns-clause-others g c = λ x out. object_others c.args.mem.now c.loop-place.mem c.args.base c.args.image.now.size
    (mapped c.args.image.now c.args.base) x (returns-clause-loaded g c) out
