-- The cells of a Share by order depend on their place and on the nets that come in by name alone.
--
-- Read first: Paths of gos_macro; Named of gos_share; Named.
use Rattle.std.proofs.Common.{◌≡◌, ℕ, zero, suc, ◌+◌, ◌≤◌, ◌<◌, List, [], ◌∷◌, sym, arith}
use Rattle.std.specs.Prelude.{length, map}
use Rattle.gos_netlist.specs.Nets.{And, Or, Mux, Gate, Const, Reg}
use Rattle.gos_plan.specs.Kinds.{Contact, turned_contact}
use Rattle.gos_macro.specs.Gates.{Incoming}
use Rattle.gos_macro.specs.Cells.{bit, wide}
use Rattle.gos_macro.specs.Paths.{with_renamed, Renames}
use Rattle.gos_share.specs.Blocks.{told_cells, told_size}
use Rattle.gos_share.specs.laws.Comes.{sides, ArePlaced, all_placed}
use Rattle.gos_share.specs.laws.Named.{SideNamed, OwnNamed, side_named, told_named, both_named}
use Rattle.gos_fast_share.specs.Thread.{Asker, Nobody, Caller0, Caller1, asker, one_if_asks, requests, requests_before}
use Rattle.gos_fast_share.specs.Fast.{set_cells, thread_cells, up_bits, down_bits, split_cells, split_size, block_cells, block_size, row_cells, fast_cells}
use Rattle.gos_fast_share.specs.inner.Sizes.{blocks_size}
use Rattle.gos_fast_share.specs.laws.Threaded.{IsThere, asker_there}
use Rattle.gos_fast_share.specs.laws.Keeping.{sides_length, up_is, down_is}
use Rattle.gos_fast_share.specs.laws.Named.{fewer_before, fast_length}

split_named : (f : ℕ → ℕ) (i o : Incoming) (w j b d n k size : ℕ) → OwnNamed f b d size → n + split_size w ≤ size → k < size → SideNamed f i o w j
    → split_cells w o j d n (d + k) ≡ map (with_renamed f) (split_cells w i j b n (b + k))
split_named f i o zero j b d n k size own fits low source =
    let branch = own k low in
    let none = own 0 (omega (arith, fits)) in
    λ t. bit (Mux (branch t) (none t) (source.pulse t)) ∷ bit (And (source.pulse t) (branch t)) ∷ []
split_named f i o (suc w) j b d n k size own fits low source =
    let branch = own k low in
    let none = own 0 (omega (arith, fits)) in
    let o0 = own (n + 0) (omega (arith, fits)) in
    let o1 = own (n + 1) (omega (arith, fits)) in
    let v = source.value (omega arith) in
    λ t. bit (Mux (branch t) (none t) (source.pulse t)) ∷ bit (And (source.pulse t) (branch t)) ∷ wide (suc w) (Gate (o0 t) (v t)) ∷ wide (suc w) (Gate (o1 t) (v t)) ∷ []

set_named : (f : ℕ → ℕ) (a : Asker) (p q b d n size : ℕ) → OwnNamed f b d size → n < size → (one_if_asks a ≡ 1 → q ≡ f p)
    → set_cells a q d n ≡ map (with_renamed f) (set_cells a p b n)
set_named f Nobody p q b d n size own low pulse = λ t. []
set_named f Caller0 p q b d n size own low pulse =
    let branch = own n low in
    let none = own 0 (omega (arith, low)) in
    let request = pulse (λ t. 1) in
    λ t. bit (Mux (request t) (none t) (branch t)) ∷ []
set_named f Caller1 p q b d n size own low pulse =
    let branch = own n low in
    let request = pulse (λ t. 1) in
    λ t. bit (Or (branch t) (request t)) ∷ []

thread_named : (ks : List Contact) (total : ℕ) (f : ℕ → ℕ) (i o : Incoming) (b d n size : ℕ) (es : List ℕ) → Renames (sides ks) total f b d i o → OwnNamed f b d size
    → n + requests ks es < size → thread_cells ks o d n es ≡ map (with_renamed f) (thread_cells ks i b n es)
thread_named ks total f i o b d n size [] names own fits = λ t. []
thread_named ks total f i o b d n size (e ∷ es) names own fits =
    both_named f (set_cells (asker ks e) (i.pulse e) b n) (thread_cells ks i b (n + one_if_asks (asker ks e)) es)
    (set_cells (asker ks e) (o.pulse e) d n) (thread_cells ks o d (n + one_if_asks (asker ks e)) es)
    (set_named f (asker ks e) (i.pulse e) (o.pulse e) b d n size own (omega (arith, fits)) (there (asker ks e) (asker_there ks e)))
    (thread_named ks total f i o b d (n + one_if_asks (asker ks e)) size es names own (omega (arith, fits)))
  where
    there : (a : Asker) → IsThere ks e a → one_if_asks a ≡ 1 → o.pulse e ≡ f (i.pulse e)
    there Nobody is asks = absurd (omega (arith, asks))
    there Caller0 is asks = sym (names.pulse e (let long = sides_length ks in omega (arith, is, long)))
    there Caller1 is asks = sym (names.pulse e (let long = sides_length ks in omega (arith, is, long)))

row_named : (ks : List Contact) (order : List ℕ) (total : ℕ) (f : ℕ → ℕ) (i o : Incoming) (j b d n size : ℕ) (ls : List Contact) → Renames (sides ks) total f b d i o
    → OwnNamed f b d size → 1 + requests ks order < size → n + blocks_size ls ≤ size → ArePlaced ks j ls
    → row_cells ks order o j d n ls ≡ map (with_renamed f) (row_cells ks order i j b n ls)
row_named ks order total f i o j b d n size [] names own thread fits placed = λ t. []
row_named ks order total f i o j b d n size (l ∷ ls) names own thread fits placed =
    both_named f (block_cells l.role q a i h j b n (b + k)) (row_cells ks order i (suc j) b (n + here) ls)
    (block_cells l.role q a o h j d n (d + k)) (row_cells ks order o (suc j) d (n + here) ls)
    (both_named f (told_cells u i h j b n) (split_cells w i j b (n + told_size u) (b + k)) (told_cells u o h j d n) (split_cells w o j d (n + told_size u) (d + k))
    (told_named f i o u h j b d n size own (omega (arith, fits))
    (side_named (sides ks) total f b d i o u (h + j) l names placed.0.first (up_is l.role l))
    (side_named (sides ks) total f b d i o u (h + h + j) l names placed.0.second (up_is l.role l)))
    (split_named f i o w j b d (n + told_size u) k size own (omega (arith, fits)) (omega (arith, thread, fewer))
    (side_named (sides ks) total f b d i o w j (turned_contact l) names placed.0.source (down_is l.role l))))
    (row_named ks order total f i o (suc j) b d (n + here) size ls names own thread (omega (arith, fits)) placed.1)
  where
    q : ℕ
    q = l.ask_bits

    a : ℕ
    a = l.answer_bits

    h : ℕ
    h = length ks

    u : ℕ
    u = up_bits l.role q a

    w : ℕ
    w = down_bits l.role q a

    here : ℕ
    here = block_size l.role q a

    k : ℕ
    k = 1 + requests_before ks j order

    fewer : requests_before ks j order ≤ requests ks order
    fewer = fewer_before ks j order

pub fast_named : (ks : List Contact) (order : List ℕ) (f : ℕ → ℕ) (b d : ℕ) (i o : Incoming) → Renames (sides ks) (length (fast_cells ks order b i)) f b d i o
    → fast_cells ks order d o ≡ map (with_renamed f) (fast_cells ks order b i)
fast_named ks order f b d i o names =
    let size = length (fast_cells ks order b i) in
    let own : OwnNamed f b d size = λ n low. sym (names.own n low) in
    let long = fast_length b i ks order in
    let n = 2 + requests ks order in
    let branch = own (1 + requests ks order) (omega (arith, long)) in
    let thread = thread_named ks size f i o b d 1 size order names own (omega (arith, long)) in
    let row = row_named ks order size f i o 0 b d n size ks names own (omega (arith, long)) (omega (arith, long)) (all_placed ks) in
    let both = both_named f (thread_cells ks i b 1 order) (row_cells ks order i 0 b n ks) (thread_cells ks o d 1 order) (row_cells ks order o 0 d n ks) thread row in
    λ t. bit (Const 0) ∷ bit (Reg (branch t)) ∷ both t
