-- The law of a function's result: what a host reads from R7 is what it sees in each state of its run that has that number there.
use Rattle.native_host.proofs.Common.{◌≡◌, ℕ, sym, ap, ap₂, ◌∙◌, cut_at, register, Notes, objects_at, made_objects, reading_of, RunState}
use Rattle.native_host.proofs.Common.{World, Host, placement_of}
use Rattle.host_model.specs.{HostSteps.result_of, Readings.Sort}
use Rattle.native_host.specs.Hosts.{IsHost, Tells, result_sort}

pub result-told : (w : ℕ) (world : World) (r : RunState) (h : Host w) (notes : Notes) (f x y : ℕ) (sort : Sort) → world.notes ≡ notes
    → IsHost w world h → Tells h r → register r.machine 7 ≡ x → y ≡ cut_at w x → sort ≡ result_sort notes f
    → reading_of w notes (placement_of h.places) h.made.items sort y ≡ result_of w world (placement_of h.places) r f
unfolding result_of
result-told w world r h notes f x y sort same host tells seven cut is =
    let made : h.made.items ≡ objects_at world r =
    host.made ∙ ap (made_objects world.notes world.script) (sym tells.entries) in
    ap₂ (λ made z. reading_of w notes (placement_of h.places) made sort z) made (cut ∙ ap (cut_at w) (sym seven))
    ∙ (ap (λ s. reading_of w notes (placement_of h.places) (objects_at world r) s (cut_at w (register r.machine 7))) is
    ∙ ap (λ n. reading_of w n (placement_of h.places) (objects_at world r) (result_sort n f) (cut_at w (register r.machine 7))) (sym same))
