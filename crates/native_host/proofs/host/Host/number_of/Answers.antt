use Rattle.native_host.proofs.Common.{◌≡◌, ◌+◌, sym, ap, ap₂, ◌∙◌, arith, written_number, placement_of}
use Rattle.host_model.specs.Placements.{handle_at, thunk_at}
use Rattle.native_host.proofs.host.Host.number_of.Goals as goal

pub returns-in-Int : goal.returns-in-Int
unfolding written_number
returns-in-Int g c notes of =
    ap (written_number g.row.W notes (placement_of c.args.self.now.places) c.args.self.now.made.items) (sym c.in-Int.is)

pub returns-in-Size : goal.returns-in-Size
unfolding written_number
returns-in-Size g c notes of =
    c.pair_number.ensures
    ∙ ap (written_number g.row.W notes (placement_of c.args.self.now.places) c.args.self.now.made.items) (sym c.in-Size.is)

pub returns-in-Ptr : goal.returns-in-Ptr
unfolding written_number
returns-in-Ptr g c notes of =
    c.instance_address.ensures g.row.W notes of
    ∙ ap (written_number g.row.W notes (placement_of c.args.self.now.places) c.args.self.now.made.items) (sym c.in-Ptr.is)

pub returns-in-Null : goal.returns-in-Null
unfolding written_number
returns-in-Null g c notes of =
    ap (written_number g.row.W notes (placement_of c.args.self.now.places) c.args.self.now.made.items) (sym c.in-Null.is)

pub returns-in-Any : goal.returns-in-Any
unfolding written_number
returns-in-Any g c notes of =
    ap (written_number g.row.W notes (placement_of c.args.self.now.places) c.args.self.now.made.items) (sym c.in-Any.is)

pub returns-in-Out : goal.returns-in-Out
unfolding written_number
returns-in-Out g c notes of =
    ap (written_number g.row.W notes (placement_of c.args.self.now.places) c.args.self.now.made.items) (sym c.in-Out.is)

pub returns-in-StatusOk : goal.returns-in-StatusOk
unfolding written_number
returns-in-StatusOk g c notes of =
    (let same : c.from.result ≡ c.in-StatusOk.code = cc in same)
    ∙ ap (written_number g.row.W notes (placement_of c.args.self.now.places) c.args.self.now.made.items) (sym c.in-StatusOk.is)

pub returns-in-StatusError : goal.returns-in-StatusError
unfolding written_number
returns-in-StatusError g c notes of =
    ap₂ (λ b k. b + k) c.error_bit.ensures.bit (let same : c.from-in-StatusError.result ≡ c.in-StatusError.code = cc in same)
    ∙ ap (written_number g.row.W notes (placement_of c.args.self.now.places) c.args.self.now.made.items) (sym c.in-StatusError.is)

pub returns-in-Handle : goal.returns-in-Handle
unfolding written_number
returns-in-Handle g c notes of =
    (let number : c.handle_at.result ≡ handle_at notes (placement_of c.args.self.now.places) c.in-Handle.handle =
    omega (arith, c.handle_at.ensures, of.methods, of.functions) in number)
    ∙ ap (written_number g.row.W notes (placement_of c.args.self.now.places) c.args.self.now.made.items) (sym c.in-Handle.is)

pub returns-in-Entry : goal.returns-in-Entry
unfolding written_number
returns-in-Entry g c notes of =
    (let number : c.thunk_at.result ≡ thunk_at notes (placement_of c.args.self.now.places) c.in-Entry.function =
    omega (arith, c.thunk_at.ensures, of.methods) in number)
    ∙ ap (written_number g.row.W notes (placement_of c.args.self.now.places) c.args.self.now.made.items) (sym c.in-Entry.is)

pub returns-in-Method : goal.returns-in-Method
unfolding written_number
returns-in-Method g c notes of =
    c.method_at.ensures
    ∙ ap (written_number g.row.W notes (placement_of c.args.self.now.places) c.args.self.now.made.items) (sym c.in-Method.is)

pub returns-in-Wild : goal.returns-in-Wild
unfolding written_number
returns-in-Wild g c notes of =
    ap (written_number g.row.W notes (placement_of c.args.self.now.places) c.args.self.now.made.items) (sym c.in-Wild.is)
