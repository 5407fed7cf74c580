use Rattle.native_host.proofs.Common.{sym, ap, ◌∙◌, option_map, reading_of, placement_of, sort_of}
use Rattle.host_model.specs.Readings.{or_null, or_wild}
use Rattle.native_host.specs.declared.sort.Sort.{Sort}
use Rattle.native_host.proofs.ReadingLaws.{entry-is, handle-is, method-is}
use Rattle.note_types.specs.declared.value.Value.TheVariants as value
use Rattle.native_host.proofs.places.Places.reading.Goals as goal

pub returns-in-Anything : goal.returns-in-Anything
unfolding reading_of
returns-in-Anything g c notes of =
    ap (λ (s : Sort). reading_of g.row.W notes (placement_of c.args.self.now) c.args.made.now (sort_of s) c.args.x) (sym c.in-Anything.is)

pub returns-in-Number : goal.returns-in-Number
unfolding reading_of
returns-in-Number g c notes of =
    ap (λ (s : Sort). reading_of g.row.W notes (placement_of c.args.self.now) c.args.made.now (sort_of s) c.args.x) (sym c.in-Number.is)

pub returns-in-Size : goal.returns-in-Size
unfolding reading_of
returns-in-Size g c notes of =
    c.size_read.ensures
    ∙ ap (λ (s : Sort). reading_of g.row.W notes (placement_of c.args.self.now) c.args.made.now (sort_of s) c.args.x) (sym c.in-Size.is)

pub returns-in-Pointer : goal.returns-in-Pointer
unfolding reading_of
returns-in-Pointer g c notes of =
    c.or_wild.ensures
    ∙ (ap (or_wild c.args.x) (c.or_null.ensures ∙ ap (or_null c.args.x) (c.pointer_read.ensures g.row.W notes of))
    ∙ ap (λ (s : Sort). reading_of g.row.W notes (placement_of c.args.self.now) c.args.made.now (sort_of s) c.args.x) (sym c.in-Pointer.is))

pub returns-in-Handle : goal.returns-in-Handle
unfolding reading_of
returns-in-Handle g c notes of =
    c.or_wild-in-Handle.ensures
    ∙ (ap (or_wild c.args.x) (c.or_null-in-Handle.ensures ∙ ap (or_null c.args.x) (c.handle_read.ensures
    ∙ ap (option_map value.Handle) (handle-is g.row.W notes c.args.self.now c.args.x of)))
    ∙ ap (λ (s : Sort). reading_of g.row.W notes (placement_of c.args.self.now) c.args.made.now (sort_of s) c.args.x) (sym c.in-Handle.is))

pub returns-in-Entry : goal.returns-in-Entry
unfolding reading_of
returns-in-Entry g c notes of =
    c.or_wild-in-Entry.ensures
    ∙ (ap (or_wild c.args.x) (c.or_null-in-Entry.ensures ∙ ap (or_null c.args.x) (c.entry_read.ensures
    ∙ ap (option_map value.Entry) (entry-is g.row.W notes c.args.self.now c.args.x of)))
    ∙ ap (λ (s : Sort). reading_of g.row.W notes (placement_of c.args.self.now) c.args.made.now (sort_of s) c.args.x) (sym c.in-Entry.is))

pub returns-in-Status : goal.returns-in-Status
unfolding reading_of
returns-in-Status g c notes of =
    c.or_wild-in-Status.ensures
    ∙ (ap (or_wild c.args.x) c.status_read.ensures
    ∙ ap (λ (s : Sort). reading_of g.row.W notes (placement_of c.args.self.now) c.args.made.now (sort_of s) c.args.x) (sym c.in-Status.is))

pub returns-in-Method : goal.returns-in-Method
unfolding reading_of
returns-in-Method g c notes of =
    c.or_wild-in-Method.ensures
    ∙ (ap (or_wild c.args.x) (c.method_read.ensures ∙ ap (option_map value.Method) (method-is g.row.W notes c.args.self.now c.args.x of))
    ∙ ap (λ (s : Sort). reading_of g.row.W notes (placement_of c.args.self.now) c.args.made.now (sort_of s) c.args.x) (sym c.in-Method.is))
