-- Laws of the top frame: its slots, and what a mark makes of it.
use Rattle.native_host.proofs.Common.{◌≡◌, ℕ, zero, suc, ◌+◌, ◌-◌, ◌*◌, ◌<◌, ◌≤◌, Bool, false, List, [], ◌∷◌, length, map, take, get_or}
use Rattle.native_host.proofs.Common.{nat_eq, Some, if◌then◌else◌, refl, sym, ap, ap₂, ◌∙◌, arith, add-one, slice_get, slice_index}
use Rattle.native_host.proofs.Common.{option_map_or, same_Some, with_mark, Frame, saved_of, NO_ENTRY, call_under_way}
use Rattle.native_host.proofs.Common.{with_call, Accepted, NativeCall, NoCall, copied, one_callback, IsCalled, top_count, top_slots}
use Rattle.frame_stack.specs.Frames.{frame_at, from_bottom}
use Rattle.callex_thunk.specs.HostFrames.{call_of}
use Rattle.callex_thunk.proofs.FrameLaws.{from_bottom-top, slots-told}

-- ---- slots

taken-here : (xs : List ℕ) (c n : ℕ) → n < c → get_or (take c xs) n 0 ≡ get_or xs n 0
taken-here [] (suc c) n less = refl
taken-here [] zero n less = absurd (omega arith)
taken-here (x ∷ xs) zero n less = absurd (omega arith)
taken-here (x ∷ xs) (suc c) zero less = refl
taken-here (x ∷ xs) (suc c) (suc n) less = taken-here xs c n (omega arith)

pub slot-none : (b : ℕ → ℕ) (fs : List Frame) (n : ℕ)
    → ((i : ℕ) (g : Frame) → from_bottom fs i ≡ Some g → frame_at b (224 * i) ≡ g) → 16 ≤ n → 0 ≡ slice_index (top_slots fs) n
slot-none b [] n told past = refl
slot-none b (f ∷ fs) n told past =
    let many = slots-told b f fs (record { frames = told }) in
    sym (taken-some f.slots f.count n (omega arith))
  where
    taken-some : (xs : List ℕ) (c n : ℕ) → length xs ≤ n → get_or (take c xs) n 0 ≡ 0
    taken-some xs zero n past = refl
    taken-some [] (suc c) n past = refl
    taken-some (x ∷ xs) (suc c) zero past = absurd (omega arith)
    taken-some (x ∷ xs) (suc c) (suc n) past = taken-some xs c n (omega arith)

pub slot-here : (fs : List Frame) (n count depth x : ℕ) → ((f : Frame) → slice_get fs 0 ≡ Some f → count ≡ f.count) → n < count
    → depth ≡ length fs → 0 < length fs → ((f : Frame) → from_bottom fs (depth - 1) ≡ Some f → x ≡ slice_index f.slots n)
    → x ≡ slice_index (top_slots fs) n
slot-here [] n count depth x is less deep some read = absurd (omega arith)
slot-here (f ∷ fs) n count depth x is less deep some read =
    let same = is f refl in
    let last : depth - 1 ≡ length fs = omega arith in
    read f (ap (from_bottom (f ∷ fs)) last ∙ from_bottom-top f fs) ∙ sym (taken-here f.slots f.count n (omega arith))

-- the top frame by its number from the bottom, and its slots
pub top-at : (fs : List Frame) (f : Frame) (depth : ℕ) → slice_get fs 0 ≡ Some f → depth ≡ length fs → from_bottom fs (depth - 1) ≡ Some f
top-at [] f depth there deep = absurd (cc)
top-at (g ∷ fs) f depth there deep =
    let last : depth - 1 ≡ length fs = omega arith in
    ap (from_bottom (g ∷ fs)) last ∙ (from_bottom-top g fs ∙ there)

pub sixteen-top : (b : ℕ → ℕ) (fs : List Frame) (f : Frame)
    → ((i : ℕ) (g : Frame) → from_bottom fs i ≡ Some g → frame_at b (224 * i) ≡ g) → slice_get fs 0 ≡ Some f → length f.slots ≡ 16
sixteen-top b [] f told there = absurd (cc)
sixteen-top b (g ∷ fs) f told there = sym (ap (λ (h : Frame). length h.slots) (same_Some g f there))
    ∙ slots-told b g fs (record { frames = told })

-- ---- marks

-- the call above a frame that has no entry, and above one that has one
pub no-call : (f : Frame) → call_of (record f { entry = NO_ENTRY; callback = 0; count = 0 }) ≡ NoCall
unfolding call_of
no-call f = refl

pub some-call : (f : Frame) → nat_eq f.entry NO_ENTRY ≡ false → call_of f ≡ Accepted f.entry f.callback (take f.count f.slots)
unfolding call_of
some-call f some = ap (λ (b : Bool). if b then NoCall else Accepted f.entry f.callback (take f.count f.slots)) some

-- the frames of the host once the top one has a mark with an entry, or with none
pub marked-some : (fs : List Frame) (entry callback count : ℕ) (slots : List ℕ) → nat_eq entry NO_ENTRY ≡ false
    → ((f : Frame) → slice_get fs 0 ≡ Some f → take count f.slots ≡ slots)
    → map saved_of (with_mark entry callback count fs) ≡ with_call (Accepted entry callback slots) (map saved_of fs)
unfolding with_mark saved_of
marked-some [] entry callback count slots some is = refl
marked-some (f ∷ fs) entry callback count slots some is =
    ap (λ (call : NativeCall ℕ). record (saved_of f) { call = call } ∷ map saved_of fs)
    (some-call (record f { entry = entry; callback = callback; count = count }) some
    ∙ ap (Accepted entry callback) (is f refl))

pub marked-none : (fs : List Frame) → map saved_of (with_mark NO_ENTRY 0 0 fs) ≡ with_call NoCall (map saved_of fs)
unfolding with_mark saved_of
marked-none [] = refl
marked-none (f ∷ fs) = ap (λ (call : NativeCall ℕ). record (saved_of f) { call = call } ∷ map saved_of fs) (no-call f)

-- ---- a call that is under way

pub called-some : (fs : List Frame) → IsCalled fs → 0 < length fs
called-some [] called = let there = called.there in absurd (cc)
called-some (f ∷ fs) called = omega arith

pub under-way : (fs : List Frame) (called : IsCalled fs)
    → call_under_way (map saved_of fs) ≡ Accepted called.top.entry called.top.callback (take called.top.count called.top.slots)
unfolding saved_of
under-way [] called = let there = called.there in absurd (cc)
under-way (f ∷ fs) called = ap call_of (same_Some f called.top called.there) ∙ some-call called.top called.under

pub copied-slots : (fs : List Frame) → IsCalled fs → copied (call_under_way (map saved_of fs)) ≡ top_slots fs
copied-slots fs called =
    ap copied (under-way fs called) ∙ sym (ap (λ o. option_map_or (λ (f : Frame). take f.count f.slots) o []) called.there)

pub marked-callback : (fs : List Frame) (called : IsCalled fs) (entry callback : ℕ) → entry ≡ called.top.entry → callback
    ≡ called.top.callback
    → map saved_of (with_mark entry (callback + 1) (top_count fs) fs)
    ≡ with_call (one_callback (call_under_way (map saved_of fs))) (map saved_of fs)
marked-callback fs called entry callback same at =
    let count : top_count fs ≡ called.top.count = ap (λ o. option_map_or (λ (f : Frame). f.count) o 0) called.there in
    marked-some fs entry (callback + 1) (top_count fs) (take called.top.count called.top.slots)
    (ap (λ e. nat_eq e NO_ENTRY) same ∙ called.under)
    (λ f there. ap₂ (λ n (g : Frame). take n g.slots) count (same_Some f called.top (sym there ∙ called.there)))
    ∙ sym (ap (λ call. with_call call (map saved_of fs))
    (ap one_callback (under-way fs called)
    ∙ (ap₂ (λ e n. Accepted e n (take called.top.count called.top.slots)) (sym same) (ap suc (sym at) ∙ sym (add-one callback)))))
