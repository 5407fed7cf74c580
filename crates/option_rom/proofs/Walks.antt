-- The walk over the images of a file finds the images of an option ROM, or the first fault.
use Rattle.option_rom.proofs.Common.{◌≡◌, ℕ, zero, suc, ◌+◌, ◌-◌, ◌<◌, ◌≤◌, Bool, true, false, List, [], ◌∷◌, ◌++◌, length, get_or, refl}
use Rattle.option_rom.proofs.Common.{sym, ap, ◌∙◌, subst, arith, length-append, Some, None, Result, Ok, Err, All, IfSome, nat_le, slice_get}
use Rattle.option_rom.proofs.Common.{◌>>=◌, RomImage, Fault, checked, header_checked, size_at, IsMarkedLast, IsRom, IsRomImage, image_at}
use Rattle.option_rom.proofs.Common.{size_of, images_from, is_last, next_of, rom_of}
use Rattle.std.proofs.{Common.⊎_elim, Common.cond, Common.take, Math.Seq.get_or-append_seam, Math.Seq.take-append_seam}
use Rattle.std.proofs.{Math.Seq.take-length, lemmas.Bool.cases_lt, lemmas.Bool.Decides.nat_tests, lemmas.List.get_or_append_left}
use Rattle.std.proofs.lemmas.List.{take-append-le, take_more, Elements.All-push, Sums.sum_by_more}
use Rattle.std.proofs.lemmas.List.Sums.{sum_by_push}
use Rattle.std.specs.Prelude.{sum_by}
use Rattle.option_rom.specs.declared.fault.RomFault.{RomFault}
use Rattle.option_rom.specs.{Images.FollowEachOther, Roms.FailsFirst}
use Rattle.option_rom.proofs.Checked.{IsRomImage-checked, checked-image, marked_last, not_last}
use Rattle.option_rom.specs.declared.fault.RomFault.TheVariants as faults

-- ---- images one behind the other

-- where the first i images end
abbrev reached : ℕ → List RomImage → ℕ
reached i images = sum_by size_of (take i images)

-- The first k images are images of the file, each where those before it end.
pub record Stand (file : List ℕ) (images : List RomImage) (k : ℕ) : Type 0 where
  pub within : k ≤ length images
  pub each : (i : ℕ) (d : RomImage) → i < k → IsRomImage file (get_or images i d)
  pub stands : (i : ℕ) (d : RomImage) → i < k → (get_or images i d).offset ≡ reached i images

Stand-fewer : (file : List ℕ) (images : List RomImage) (k : ℕ) → Stand file images (suc k) → Stand file images k
Stand-fewer file images k s =
    record {
      within = omega (arith, s.within);
      each = λ i d less. s.each i d (omega arith);
      stands = λ i d less. s.stands i d (omega arith);
    }

-- one more
reached_more :
    (images : List RomImage) (k : ℕ) (d : RomImage) → k < length images →
    reached (suc k) images ≡ reached k images + size_of (get_or images k d)
reached_more images k d within = let one : suc k ≡ k + 1 = omega arith in rw one (sum_by_more size_of images k d within)

Stand-push :
    (file : List ℕ) (images : List RomImage) (r : RomImage) → Stand file images (length images) → IsRomImage file r →
    r.offset ≡ sum_by size_of images →
    Stand file (images ++ r ∷ []) (suc (length images))
Stand-push file images r s is at =
    record {
      within = omega (arith, length-append images (r ∷ []));
      each = λ i d less. by_place (λ x. IsRomImage file x) i d less (λ inside. s.each i d inside) is;
      stands = λ i d less.
          ⊎_elim
          (λ inside.
          ap (λ (x : RomImage). x.offset) (get_or_append_left images (r ∷ []) d i inside)
          ∙ (s.stands i d inside ∙ ap (sum_by size_of) (sym (take-append-le i images (r ∷ []) (omega arith)))))
          (λ past.
          let here : i ≡ length images = omega arith in
          rw here
          (ap (λ (x : RomImage). x.offset) (get_or-append_seam images r [] d)
          ∙ (at ∙ ap (sum_by size_of) (sym (take-append_seam images (r ∷ []))))))
          (cases_lt i (length images));
    }
  where
    by_place :
        (P : RomImage → Type 0) (i : ℕ) (d : RomImage) → i < suc (length images) → (i < length images → P (get_or images i d)) →
        P r →
        P (get_or (images ++ r ∷ []) i d)
    by_place P i d less before last =
        ⊎_elim
        (λ inside. subst P (sym (get_or_append_left images (r ∷ []) d i inside)) (before inside))
        (λ past. let here : i ≡ length images = omega arith in rw here (subst P (sym (get_or-append_seam images r [] d)) last))
        (cases_lt i (length images))

-- images one behind the other are fewer than bytes, and end in the file
reach : (file : List ℕ) (images : List RomImage) (k : ℕ) → Stand file images k → (k ≤ reached k images) × (reached k images ≤ length file)
reach file images zero s = (omega arith, omega arith)
reach file images (suc k) s =
    let d : RomImage = image_at file 0 in
    let before = reach file images k (Stand-fewer file images k s) in
    let here : IsRomImage file (get_or images k d) = s.each k d (omega arith) in
    let at : (get_or images k d).offset ≡ reached k images = s.stands k d (omega arith) in
    let more : reached (suc k) images ≡ reached k images + size_of (get_or images k d) =
    reached_more images k d (omega (arith, s.within)) in
    (omega (arith, before.0, here.some), omega (arith, here.within))

-- they follow each other, as the standard says it
follow : (file : List ℕ) (images : List RomImage) → Stand file images (length images) → FollowEachOther file images
follow file images s =
    record {
      each = s.each;
      first = at_first images (λ d within. s.stands 0 d within);
      next = λ k d within.
          let one : suc k ≡ k + 1 = omega arith in
          let inside : k < length images = omega arith in
          (ap (λ n. (get_or images n d).offset) (sym one) ∙ s.stands (suc k) d (omega arith))
          ∙ (reached_more images k d inside ∙ ap (λ n. n + size_of (get_or images k d)) (sym (s.stands k d inside)));
    }
  where
    at_first :
        (xs : List RomImage) → ((d : RomImage) → 0 < length xs → (get_or xs 0 d).offset ≡ 0) →
        IfSome (slice_get xs 0) (λ r. r.offset ≡ 0)
    at_first [] h = tt
    at_first (x ∷ xs) h = h x (omega arith)

sums :
    (file : List ℕ) (images : List RomImage) → FollowEachOther file images → (i : ℕ) (d : RomImage) → i < length images →
    (get_or images i d).offset ≡ reached i images
sums file images f zero d within = at_first images f.first within
  where
    at_first : (xs : List RomImage) → IfSome (slice_get xs 0) (λ r. r.offset ≡ 0) → 0 < length xs → (get_or xs 0 d).offset ≡ 0
    at_first [] h within = absurd (omega arith)
    at_first (x ∷ xs) h within = h
sums file images f (suc i) d within =
    let one : suc i ≡ i + 1 = omega arith in
    ap (λ n. (get_or images n d).offset) one
    ∙ (f.next i d (omega arith)
    ∙ (ap (λ n. n + size_of (get_or images i d)) (sums file images f i d (omega arith)) ∙ sym (reached_more images i d (omega arith))))

stand : (file : List ℕ) (images : List RomImage) → FollowEachOther file images → Stand file images (length images)
stand file images f = record { within = omega arith; each = f.each; stands = sums file images f }

-- ---- one step of the walk

pub none_left : (n : ℕ) (file : List ℕ) (images : List RomImage) → images_from n file images None ≡ Ok images
unfolding images_from
none_left zero file images = refl
none_left (suc n) file images = refl

pub one_fails :
    (n : ℕ) (file : List ℕ) (images : List RomImage) (at : ℕ) (f : Fault) → checked file at ≡ Err f →
    images_from (suc n) file images (Some at) ≡ Err f
unfolding images_from
one_fails n file images at f h = rw h refl

pub one_more :
    (n : ℕ) (file : List ℕ) (images : List RomImage) (at : ℕ) → checked file at ≡ Ok tt →
    images_from (suc n) file images (Some at) ≡ images_from n file (images ++ image_at file at ∷ []) (next_of file at)
unfolding images_from
one_more n file images at h = rw h refl

-- the same, of an image that is known
size-is : (file : List ℕ) (at : ℕ) → size_of (image_at file at) ≡ size_at file at
unfolding image_at
size-is file at = refl

offset-is : (file : List ℕ) (at : ℕ) → (image_at file at).offset ≡ at
unfolding image_at
offset-is file at = refl

passed_on :
    (n : ℕ) (file : List ℕ) (images : List RomImage) (r : RomImage) → IsRomImage file r → ¬ IsMarkedLast file r →
    images_from (suc n) file images (Some r.offset) ≡ images_from n file (images ++ r ∷ []) (Some (r.offset + size_of r))
unfolding next_of
passed_on n file images r is more =
    one_more n file images r.offset (checked-image file r is)
    ∙ (ap (λ x. images_from n file (images ++ x ∷ []) (next_of file r.offset)) (sym is.record_is)
    ∙ (ap (λ b. images_from n file (images ++ r ∷ []) (cond b None (Some (r.offset + size_at file r.offset))))
    (open_end (is_last file r.offset) refl)
    ∙ ap (λ m. images_from n file (images ++ r ∷ []) (Some (r.offset + m))) (sym (size-is file r.offset) ∙ ap size_of (sym is.record_is))))
  where
    open_end : (b : Bool) → is_last file r.offset ≡ b → is_last file r.offset ≡ false
    open_end false e = e
    open_end true e = absurd (more (marked_last file r e))

ends_with :
    (n : ℕ) (file : List ℕ) (images : List RomImage) (r : RomImage) → IsRomImage file r → IsMarkedLast file r →
    images_from (suc n) file images (Some r.offset) ≡ Ok (images ++ r ∷ [])
unfolding next_of
ends_with n file images r is last =
    one_more n file images r.offset (checked-image file r is)
    ∙ (ap (λ x. images_from n file (images ++ x ∷ []) (next_of file r.offset)) (sym is.record_is)
    ∙ (ap (λ b. images_from n file (images ++ r ∷ []) (cond b None (Some (r.offset + size_at file r.offset))))
    (at_end (is_last file r.offset) refl)
    ∙ none_left n file (images ++ r ∷ [])))
  where
    at_end : (b : Bool) → is_last file r.offset ≡ b → is_last file r.offset ≡ true
    at_end true e = e
    at_end false e = absurd (not_last file r e last)

-- ---- the walk passes images of which none is the last

walked :
    (file : List ℕ) (images : List RomImage) (k n : ℕ) → Stand file images k
    → ((i : ℕ) (d : RomImage) → i < k → ¬ IsMarkedLast file (get_or images i d)) →
    images_from (k + n) file [] (Some 0) ≡ images_from n file (take k images) (Some (reached k images))
walked file images zero n s more = let none : 0 + n ≡ n = omega arith in rw none refl
walked file images (suc k) n s more =
    let d : RomImage = image_at file 0 in
    let r : RomImage = get_or images k d in
    let count : suc k + n ≡ k + suc n = omega arith in
    let one : suc k ≡ k + 1 = omega arith in
    let inside : k < length images = omega (arith, s.within) in
    let at : r.offset ≡ reached k images = s.stands k d (omega arith) in
    let pushed : take (suc k) images ≡ take k images ++ r ∷ [] = ap (λ m. take m images) one ∙ take_more images k d inside in
    ap (λ m. images_from m file [] (Some 0)) count
    ∙ (walked file images k (suc n) (Stand-fewer file images k s) (λ i e less. more i e (omega arith))
    ∙ (ap (λ a. images_from (suc n) file (take k images) (Some a)) (sym at)
    ∙ (passed_on n file (take k images) r (s.each k d (omega arith)) (more k d (omega arith))
    ∙ (ap (λ xs. images_from n file xs (Some (r.offset + size_of r))) (sym pushed)
    ∙ ap (λ a. images_from n file (take (suc k) images) (Some a)) (ap (λ a. a + size_of r) at ∙ sym (reached_more images k d inside))))))

pub rom-read : (file : List ℕ) (images : List RomImage) → IsRom file images → rom_of file ≡ Ok images
unfolding rom_of
rom-read file images is =
    let d : RomImage = image_at file 0 in
    let k : ℕ = length images - 1 in
    let count : length images ≡ suc k = omega (arith, is.some) in
    let inside : k < length images = omega arith in
    let whole : Stand file images (length images) = stand file images is.follow in
    let s : Stand file images k = Stand-fewer file images k (subst (Stand file images) count whole) in
    let bounds = reach file images k s in
    let r : RomImage = get_or images k d in
    let last : IsMarkedLast file r = (is.last k d inside).1 (omega arith) in
    let more : (i : ℕ) (e : RomImage) → i < k → ¬ IsMarkedLast file (get_or images i e) =
    λ i e less marked. let at_end : i + 1 ≡ length images = (is.last i e (omega arith)).0 marked in absurd (omega arith) in
    let n : ℕ = length file - k in
    let fuel : length file + 1 ≡ k + suc n = omega (arith, bounds.0, bounds.1) in
    let at : r.offset ≡ reached k images = whole.stands k d inside in
    let one : length images ≡ k + 1 = omega arith in
    ap (λ m. images_from m file [] (Some 0)) fuel
    ∙ (walked file images k (suc n) s more
    ∙ (ap (λ a. images_from (suc n) file (take k images) (Some a)) (sym at)
    ∙ (ends_with n file (take k images) r (whole.each k d inside) last
    ∙ ap Ok (sym (take_more images k d inside) ∙ (ap (λ m. take m images) (sym one) ∙ take-length images)))))

pub fault-read : (file : List ℕ) (kind : RomFault) (offset : ℕ) → FailsFirst file kind offset → rom_of file ≡ Err (kind, offset)
unfolding rom_of
fault-read file kind offset is =
    let images : List RomImage = is.before in
    let k : ℕ = length images in
    let s : Stand file images k = stand file images is.follow in
    let bounds = reach file images k s in
    let n : ℕ = length file - k in
    let fuel : length file + 1 ≡ k + suc n = omega (arith, bounds.0, bounds.1) in
    let here : checked file (reached k images) ≡ Err (kind, offset) = ap (λ xs. checked file (sum_by size_of xs)) (take-length images)
    ∙ is.here in
    ap (λ m. images_from m file [] (Some 0)) fuel
    ∙ (walked file images k (suc n) s is.more ∙ one_fails n file (take k images) (reached k images) (kind, offset) here)

pub one_rom : (file : List ℕ) (xs ys : List RomImage) → IsRom file xs → IsRom file ys → xs ≡ ys
one_rom file xs ys a b = same_list xs ys (sym (rom-read file xs a) ∙ rom-read file ys b)
  where
    same_list : (us vs : List RomImage) → ◌≡◌ {A = Result (List RomImage) Fault} (Ok us) (Ok vs) → us ≡ vs
    same_list us vs e = cc

-- ---- what the walk finds

-- a reading tells the images of an option ROM, or the first fault
abbrev pub Tells : List ℕ → Result (List RomImage) Fault → Type 0
Tells file (Ok images) = IsRom file images
Tells file (Err fault) = FailsFirst file fault.0 fault.1

-- images one behind the other, none of them the last
pub record GoesOn (file : List ℕ) (images : List RomImage) : Type 0 where
  pub stand : Stand file images (length images)
  pub more : All (λ r. ¬ IsMarkedLast file r) images

GoesOn-none : (file : List ℕ) → GoesOn file []
GoesOn-none file =
    record {
      stand = record { within = omega arith; each = λ i d less. absurd (omega arith); stands = λ i d less. absurd (omega arith) };
      more = λ i d less. absurd (omega arith);
    }

GoesOn-more :
    (file : List ℕ) (images : List RomImage) (r : RomImage) → GoesOn file images → IsRomImage file r →
    r.offset ≡ sum_by size_of images → ¬ IsMarkedLast file r →
    GoesOn file (images ++ r ∷ [])
GoesOn-more file images r g is at more =
    let count : suc (length images) ≡ length (images ++ r ∷ []) = omega (arith, length-append images (r ∷ [])) in
    record {
      stand = subst (Stand file (images ++ r ∷ [])) count (Stand-push file images r g.stand is at);
      more = All-push (λ x. ¬ IsMarkedLast file x) images r g.more more;
    }

rom_by :
    (file : List ℕ) (images : List RomImage) (r : RomImage) → GoesOn file images → IsRomImage file r →
    r.offset ≡ sum_by size_of images → IsMarkedLast file r →
    IsRom file (images ++ r ∷ [])
rom_by file images r g is at last =
    let count : suc (length images) ≡ length (images ++ r ∷ []) = omega (arith, length-append images (r ∷ [])) in
    record {
      follow = follow file (images ++ r ∷ []) (subst (Stand file (images ++ r ∷ [])) count (Stand-push file images r g.stand is at));
      some = omega (arith, length-append images (r ∷ []));
      last = λ i d within.
          ⊎_elim
          (λ inside.
          let open_end : ¬ IsMarkedLast file (get_or (images ++ r ∷ []) i d) =
          subst (λ x. ¬ IsMarkedLast file x) (sym (get_or_append_left images (r ∷ []) d i inside)) (g.more i d inside) in
          (λ marked. absurd (open_end marked), λ at_end. absurd (omega (arith, length-append images (r ∷ [])))))
          (λ past.
          let here : length images ≡ i = omega (arith, length-append images (r ∷ [])) in
          let marked : IsMarkedLast file (get_or (images ++ r ∷ []) i d) =
          subst (IsMarkedLast file) (sym (get_or-append_seam images r [] d) ∙ ap (λ n. get_or (images ++ r ∷ []) n d) here) last in
          (λ m. omega (arith, length-append images (r ∷ [])), λ at_end. marked))
          (cases_lt i (length images));
    }

fault_by :
    (file : List ℕ) (images : List RomImage) (f : Fault) → GoesOn file images → checked file (sum_by size_of images) ≡ Err f →
    FailsFirst file f.0 f.1
fault_by file images f g here = record { before = images; follow = follow file images g.stand; more = g.more; here = here }

short_past : (file : List ℕ) (at : ℕ) → length file ≤ at → checked file at ≡ Err (faults.Short, at)
unfolding checked header_checked
short_past file at past = let short : nat_le (at + 26) (length file) ≡ false = grind (arith, nat_tests) in rw short refl

told :
    (n : ℕ) (file : List ℕ) (images : List RomImage) → GoesOn file images → length file < n + length images →
    Tells file (images_from n file images (Some (sum_by size_of images)))
unfolding images_from next_of
told zero file images g enough =
    let bounds = reach file images (length images) g.stand in
    let all : reached (length images) images ≡ sum_by size_of images = ap (sum_by size_of) (take-length images) in
    fault_by file images (faults.Short, sum_by size_of images) g (short_past file (sum_by size_of images) (omega (arith, bounds.0)))
told (suc n) file images g enough =
    by_check (checked file at) refl
    (λ is more. told n file (images ++ r ∷ []) (GoesOn-more file images r g is (offset-is file at) more)
    (omega (arith, length-append images (r ∷ []))))
  where
    at : ℕ
    at = sum_by size_of images

    r : RomImage
    r = image_at file at

    next_at : sum_by size_of (images ++ r ∷ []) ≡ at + size_at file at
    next_at = sum_by_push size_of images r ∙ ap (λ m. at + m) (size-is file at)

    by_last :
        (b : Bool) → is_last file at ≡ b → IsRomImage file r →
        (¬ IsMarkedLast file r → Tells file (images_from n file (images ++ r ∷ []) (Some (sum_by size_of (images ++ r ∷ []))))) →
        Tells file (images_from n file (images ++ r ∷ []) (cond b None (Some (at + size_at file at))))
    by_last true last is rest = subst (Tells file) (sym (none_left n file (images ++ r ∷ [])))
        (rom_by file images r g is (offset-is file at) (marked_last file r (ap (is_last file) (offset-is file at) ∙ last)))
    by_last false open_end is rest =
        subst (λ a. Tells file (images_from n file (images ++ r ∷ []) (Some a))) next_at
        (rest (not_last file r (ap (is_last file) (offset-is file at) ∙ open_end)))

    by_check :
        (c : Result (Unit {0}) Fault) → checked file at ≡ c →
        (IsRomImage file r → ¬ IsMarkedLast file r → Tells file
        (images_from n file (images ++ r ∷ []) (Some (sum_by size_of (images ++ r ∷ []))))) →
        Tells file (c >>= (λ _. images_from n file (images ++ r ∷ []) (next_of file at)))
    by_check (Err f) fails rest = fault_by file images f g fails
    by_check (Ok u) passes_all rest = let is : IsRomImage file r = IsRomImage-checked file at passes_all in
        by_last (is_last file at) refl is (rest is)

pub rom-told : (file : List ℕ) → Tells file (rom_of file)
unfolding rom_of
rom-told file = told (length file + 1) file [] (GoesOn-none file) (omega arith)

pub read-rom : (file : List ℕ) (images : List RomImage) → rom_of file ≡ Ok images → IsRom file images
read-rom file images h = subst (Tells file) h (rom-told file)

pub read-fault : (file : List ℕ) (kind : RomFault) (offset : ℕ) → rom_of file ≡ Err (kind, offset) → FailsFirst file kind offset
read-fault file kind offset h = subst (Tells file) h (rom-told file)
