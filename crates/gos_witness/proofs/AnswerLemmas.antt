-- Of any lines and labels just one answer is right.
use Rattle.std.proofs.Common.{◌≡◌, ◌≤◌, ◌⊎◌, ℕ, List, [], ◌∷◌, ◌++◌, length, refl, sym, ap, subst, arith, inl, inr, ◌∙◌}
use Rattle.gos_model.specs.Labels.{Label as Shown}
use Rattle.gos_model.specs.Moves.{Program}
use Rattle.gos_witness.specs.declared.moves.Line.{Line}
use Rattle.gos_witness.specs.declared.moves.Line.TheVariants.{Unfold, Step, Label, Root}
use Rattle.gos_witness.specs.declared.fault.ExplainFault.{ExplainFault}
use Rattle.gos_witness.specs.declared.fault.ExplainFault.TheVariants as faults
use Rattle.gos_witness.specs.Sizes.{size_of}
use Rattle.gos_witness.specs.Lines.{Stand, start, Makes, CantMake, IsSmall, Lead, IsIdle, EndsIdly, IsWrong, IsTooLarge, IsLeft, Explains, limit}
use Rattle.gos_witness.specs.Verify.{IsFaultOf, AlwaysOneAnswer}
use Rattle.gos_witness.proofs.OneWayLemmas.{makes_one, lead_one}

-- lines lead where the first of them, and then the others do
lead_split : (p : Program) (xs ys : List Line) (a c : Stand) → Lead p (xs ++ ys) a c → (b : Stand) × Lead p xs a b × Lead p ys b c
lead_split p [] ys a c h = (a, refl, h)
lead_split p (x ∷ xs) ys a c (d, makes, small, rest) = let (b, first, then) = lead_split p xs ys d c rest in (b, (d, makes, small, first), then)

-- a line in a list that leads on: what it makes is small
passes : (p : Program) (labels : List Shown) (before : List Line) (line : Line) (after : List Line) (a : Stand) (end : Stand)
    → Lead p before (start labels) a → Lead p (before ++ line ∷ after) (start labels) end → (b : Stand) × Makes p line a b × IsSmall b
passes p labels before line after a end lead whole =
    let (d, first, (e, makes, small, rest)) = lead_split p before (line ∷ after) (start labels) end whole in
    (e, subst (λ (x : Stand). Makes p line x e) (lead_one p before (start labels) d a first lead) makes, small)

-- an unfolding at the end
ends : (before : List Line) (line : Line) (after : List Line) → IsIdle line after → EndsIdly (before ++ line ∷ after)
ends before (Unfold path) [] idle = (before, Unfold path, refl, tt)
ends before (Unfold path) (l ∷ after) idle = absurd idle
ends before (Step path) after idle = absurd idle
ends before (Label path) after idle = absurd idle
ends before Root after idle = absurd idle

pub not_last : (line : Line) (more : List Line) (u : Line) (vs : List Line) → IsIdle line (more ++ u ∷ vs) → ⊥
not_last (Unfold path) [] u vs idle = idle
not_last (Unfold path) (l ∷ more) u vs idle = idle
not_last (Step path) more u vs idle = idle
not_last (Label path) more u vs idle = idle
not_last Root more u vs idle = idle

-- A line at which the replay stops.
record Stop (p : Program) (labels : List Shown) (lines before : List Line) (line : Line) (after : List Line) (stand : Stand) : Type 0 where
  are : lines ≡ before ++ line ∷ after
  lead : Lead p before (start labels) stand
  stops : ((b : Stand) → Makes p line stand b → IsSmall b → ⊥) ⊎ IsIdle line after

stop_wrong : (p : Program) (labels : List Shown) (lines : List Line) (n : ℕ) (w : IsWrong p labels lines n) → Stop p labels lines w.before w.line w.after w.stand
stop_wrong p labels lines n w = record { are = w.are; lead = w.lead; stops = by w.wrong }
  where
    by : CantMake p w.line w.stand ⊎ IsIdle w.line w.after → ((b : Stand) → Makes p w.line w.stand b → IsSmall b → ⊥) ⊎ IsIdle w.line w.after
    by (inl cant) = inl (λ b makes small. cant b makes)
    by (inr idle) = inr idle

stop_large : (p : Program) (labels : List Shown) (lines : List Line) (n : ℕ) (t : IsTooLarge p labels lines n) → Stop p labels lines t.before t.line t.after t.stand
stop_large p labels lines n t = record {
  are = t.are;
  lead = t.lead;
  stops = inl (λ b makes small.
      let same : b ≡ t.next = makes_one p t.line t.stand b t.next makes t.makes in
      let small' = subst (λ (x : Stand). size_of x.config ≤ limit) same small in
      omega (arith, small', t.large));
}

-- lines at which it stops don't all lead on
stop_whole : (p : Program) (labels : List Shown) (lines before : List Line) (line : Line) (after : List Line) (stand end : Stand)
    → Stop p labels lines before line after stand → Lead p lines (start labels) end → (EndsIdly lines → ⊥) → ⊥
stop_whole p labels lines before line after stand end s whole not_idle =
    let (b, makes, small) = passes p labels before line after stand end s.lead (subst (λ (ls : List Line). Lead p ls (start labels) end) s.are whole) in
    by s.stops b makes small
  where
    by : ((b : Stand) → Makes p line stand b → IsSmall b → ⊥) ⊎ IsIdle line after → (b : Stand) → Makes p line stand b → IsSmall b → ⊥
    by (inl never) b makes small = never b makes small
    by (inr idle) b makes small = not_idle (subst EndsIdly (sym s.are) (ends before line after idle))

-- nor do more lines than those before it
stop_longer : (p : Program) (labels : List Shown) (lines before : List Line) (line : Line) (after more : List Line) (u : Line) (vs : List Line) (stand end : Stand)
    → Stop p labels lines before line after stand → after ≡ more ++ u ∷ vs → Lead p (before ++ line ∷ more) (start labels) end → ⊥
stop_longer p labels lines before line after more u vs stand end s rest longer =
    let (b, makes, small) = passes p labels before line more stand end s.lead longer in by s.stops b makes small
  where
    by : ((b : Stand) → Makes p line stand b → IsSmall b → ⊥) ⊎ IsIdle line after → (b : Stand) → Makes p line stand b → IsSmall b → ⊥
    by (inl never) b makes small = never b makes small
    by (inr idle) b makes small = not_last line more u vs (subst (λ (ls : List Line). IsIdle line ls) rest idle)

abbrev first_of : Line → List Line → Line
first_of x [] = x
first_of x (l ∷ ls) = l

abbrev rest_of : List Line → List Line
rest_of [] = []
rest_of (l ∷ ls) = ls

-- two places in one list
abbrev pub Compared : List Line → Line → List Line → List Line → Line → List Line → Type 0
Compared xs x ys us u vs =
    ((xs ≡ us) × (x ≡ u) × (ys ≡ vs))
    ⊎ (((more : List Line) × (us ≡ xs ++ x ∷ more) × (ys ≡ more ++ u ∷ vs)) ⊎ ((more : List Line) × (xs ≡ us ++ u ∷ more) × (vs ≡ more ++ x ∷ ys)))

pub compared : (xs : List Line) (x : Line) (ys us : List Line) (u : Line) (vs : List Line) → xs ++ x ∷ ys ≡ us ++ u ∷ vs → Compared xs x ys us u vs
compared [] x ys [] u vs e = inl (refl, ap (first_of x) e, ap rest_of e)
compared [] x ys (w ∷ us) u vs e = inr (inl (us, ap (λ l. l ∷ us) (sym (ap (first_of x) e)), ap rest_of e))
compared (w ∷ xs) x ys [] u vs e = inr (inr (xs, ap (λ l. l ∷ xs) (ap (first_of x) e), sym (ap rest_of e)))
compared (w ∷ xs) x ys (t ∷ us) u vs e = by (compared xs x ys us u vs (ap rest_of e))
  where
    first : w ≡ t
    first = ap (first_of w) e

    by : Compared xs x ys us u vs → Compared (w ∷ xs) x ys (t ∷ us) u vs
    by (inl (same, line, after)) = inl ((λ i. first i ∷ same i), line, after)
    by (inr (inl (more, longer, after))) = inr (inl (more, (λ i. sym first i ∷ longer i), after))
    by (inr (inr (more, longer, after))) = inr (inr (more, (λ i. first i ∷ longer i), after))

-- it stops at one line
stops_once : (p : Program) (labels : List Shown) (lines xs : List Line) (x : Line) (ys us : List Line) (u : Line) (vs : List Line) (a b : Stand)
    → Stop p labels lines xs x ys a → Stop p labels lines us u vs b → (xs ≡ us) × (x ≡ u) × (ys ≡ vs)
stops_once p labels lines xs x ys us u vs a b s t = by (compared xs x ys us u vs (sym s.are ∙ t.are))
  where
    by : Compared xs x ys us u vs → (xs ≡ us) × (x ≡ u) × (ys ≡ vs)
    by (inl same) = same
    by (inr (inl (more, longer, after))) =
        absurd (stop_longer p labels lines xs x ys more u vs a b s after (subst (λ (ls : List Line). Lead p ls (start labels) b) longer t.lead))
    by (inr (inr (more, longer, after))) =
        absurd (stop_longer p labels lines us u vs more x ys b a t after (subst (λ (ls : List Line). Lead p ls (start labels) a) longer s.lead))

wrong_once : (p : Program) (labels : List Shown) (lines : List Line) (n k : ℕ) → IsWrong p labels lines n → IsWrong p labels lines k → n ≡ k
wrong_once p labels lines n k w v =
    let (same, line, after) =
    stops_once p labels lines w.before w.line w.after v.before v.line v.after w.stand v.stand (stop_wrong p labels lines n w) (stop_wrong p labels lines k v) in
    w.place ∙ ap length same ∙ sym v.place

wrong_not_large : (p : Program) (labels : List Shown) (lines : List Line) (n k : ℕ) → IsWrong p labels lines n → IsTooLarge p labels lines k → ⊥
wrong_not_large p labels lines n k w t = by w.wrong
  where
    once : (w.before ≡ t.before) × (w.line ≡ t.line) × (w.after ≡ t.after)
    once = stops_once p labels lines w.before w.line w.after t.before t.line t.after w.stand t.stand (stop_wrong p labels lines n w) (stop_large p labels lines k t)

    stand : w.stand ≡ t.stand
    stand =
        lead_one p t.before (start labels) w.stand t.stand
        (subst (λ (ls : List Line). Lead p ls (start labels) w.stand) once.0 w.lead) t.lead

    makes : Makes p w.line w.stand t.next
    makes =
        subst (λ (l : Line). Makes p l w.stand t.next) (sym once.1)
        (subst (λ (x : Stand). Makes p t.line x t.next) (sym stand) t.makes)

    by : CantMake p w.line w.stand ⊎ IsIdle w.line w.after → ⊥
    by (inl cant) = cant t.next makes
    by (inr idle) =
        t.not_idle
        (subst (λ (l : Line). IsIdle l t.after) once.1 (subst (λ (ls : List Line). IsIdle w.line ls) once.2 idle))

large_once : (p : Program) (labels : List Shown) (lines : List Line) (n k : ℕ) → IsTooLarge p labels lines n → IsTooLarge p labels lines k → n ≡ k
large_once p labels lines n k t v = t.has ∙ ap (λ (x : Stand). size_of x.config) next ∙ sym v.has
  where
    once : (t.before ≡ v.before) × (t.line ≡ v.line) × (t.after ≡ v.after)
    once = stops_once p labels lines t.before t.line t.after v.before v.line v.after t.stand v.stand (stop_large p labels lines n t) (stop_large p labels lines k v)

    stand : t.stand ≡ v.stand
    stand =
        lead_one p v.before (start labels) t.stand v.stand
        (subst (λ (ls : List Line). Lead p ls (start labels) t.stand) once.0 t.lead) v.lead

    next : t.next ≡ v.next
    next =
        makes_one p v.line v.stand t.next v.next
        (subst (λ (l : Line). Makes p l v.stand t.next) once.1 (subst (λ (x : Stand). Makes p t.line x t.next) stand t.makes)) v.makes

left_once : (p : Program) (labels : List Shown) (lines : List Line) (n k : ℕ) → IsLeft p labels lines n → IsLeft p labels lines k → n ≡ k
left_once p labels lines n k s t =
    let same = ap (λ (x : Stand). length x.left) (lead_one p lines (start labels) s.stand t.stand s.lead t.lead) in
    omega (arith, s.used, t.used, same)

one_fault : (p : Program) (labels : List Shown) (lines : List Line) (f g : ExplainFault) → IsFaultOf p labels lines f → IsFaultOf p labels lines g → f ≡ g
one_fault p labels lines (faults.Wrong n) (faults.Wrong k) h j = ap faults.Wrong (wrong_once p labels lines n k h j)
one_fault p labels lines (faults.Wrong n) (faults.Labels k) h j =
    absurd (stop_whole p labels lines h.before h.line h.after h.stand j.stand (stop_wrong p labels lines n h) j.lead j.whole)
one_fault p labels lines (faults.Wrong n) (faults.Nodes k) h j = absurd (wrong_not_large p labels lines n k h j)
one_fault p labels lines (faults.Labels n) (faults.Wrong k) h j =
    absurd (stop_whole p labels lines j.before j.line j.after j.stand h.stand (stop_wrong p labels lines k j) h.lead h.whole)
one_fault p labels lines (faults.Labels n) (faults.Labels k) h j = ap faults.Labels (left_once p labels lines n k h j)
one_fault p labels lines (faults.Labels n) (faults.Nodes k) h j =
    absurd (stop_whole p labels lines j.before j.line j.after j.stand h.stand (stop_large p labels lines k j) h.lead h.whole)
one_fault p labels lines (faults.Nodes n) (faults.Wrong k) h j = absurd (wrong_not_large p labels lines k n j h)
one_fault p labels lines (faults.Nodes n) (faults.Labels k) h j =
    absurd (stop_whole p labels lines h.before h.line h.after h.stand j.stand (stop_large p labels lines n h) j.lead j.whole)
one_fault p labels lines (faults.Nodes n) (faults.Nodes k) h j = ap faults.Nodes (large_once p labels lines n k h j)
one_fault p labels lines (faults.Form n) g h j = absurd h
one_fault p labels lines (faults.NotTrace n) g h j = absurd h
one_fault p labels lines (faults.Spent n) g h j = absurd h
one_fault p labels lines faults.Taken g h j = absurd h
one_fault p labels lines faults.NoMemory g h j = absurd h
one_fault p labels lines f (faults.Form n) h j = absurd j
one_fault p labels lines f (faults.NotTrace n) h j = absurd j
one_fault p labels lines f (faults.Spent n) h j = absurd j
one_fault p labels lines f faults.Taken h j = absurd j
one_fault p labels lines f faults.NoMemory h j = absurd j

no_fault : (p : Program) (labels : List Shown) (lines : List Line) → Explains p labels lines → (f : ExplainFault) → IsFaultOf p labels lines f → ⊥
no_fault p labels lines e (faults.Wrong n) h =
    stop_whole p labels lines h.before h.line h.after h.stand (record { config = e.config; left = [] }) (stop_wrong p labels lines n h) e.lead e.whole
no_fault p labels lines e (faults.Nodes n) h =
    stop_whole p labels lines h.before h.line h.after h.stand (record { config = e.config; left = [] }) (stop_large p labels lines n h) e.lead e.whole
no_fault p labels lines e (faults.Labels n) h =
    h.some (ap (λ (x : Stand). x.left) (lead_one p lines (start labels) h.stand (record { config = e.config; left = [] }) h.lead e.lead))
no_fault p labels lines e (faults.Form n) h = h
no_fault p labels lines e (faults.NotTrace n) h = h
no_fault p labels lines e (faults.Spent n) h = h
no_fault p labels lines e faults.Taken h = h
no_fault p labels lines e faults.NoMemory h = h

pub always_one_answer : AlwaysOneAnswer
always_one_answer p labels lines = record {
  not_both = no_fault p labels lines;
  one = one_fault p labels lines;
}
