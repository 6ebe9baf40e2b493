use Rattle.std.proofs.Common.{◌<◌, ℕ, length, sym, subst}
use Rattle.std.specs.Int.Bits.{bit_or}
use Rattle.gos_witness.specs.declared.nodes.Form.{Form}
use Rattle.gos_witness.specs.NodeLists.{Fits, seen, shape}
use Rattle.gos_witness.specs.inner.PortMasks.{IsMask}
use Rattle.gos_witness.proofs.MaskLemmas.{mask_two, mask_three}
use Rattle.gos_witness.proofs.masks.Masks.mask_of.Goals as goal

pub returns-in-Two : goal.returns-in-Two
returns-in-Two c =
    let ports = c.args.ports.now in
    let s = c.args.self.now in
    let l = c.args.list.now in
    let a = c.in-Two.a in
    let b = c.in-Two.b in
    let Is : ℕ → ℕ → Type 0 = λ mask i. IsMask ports s.block mask (seen l i) in
    let fits : (a < length s.masks.items) × (b < length s.masks.items) =
    subst (λ (f : Form). Fits l.tables (length s.masks.items) f) c.in-Two.is c.requires.fits in
    let one : Is c.mask-in-Two.result a = subst (λ (z : ℕ). Is z a) (sym c.mask-in-Two.ensures) (c.requires.masks.masks a fits.0) in
    let two : Is c.mask-in-Two-2.result b = subst (λ (z : ℕ). Is z b) (sym c.mask-in-Two-2.ensures) (c.requires.masks.masks b fits.1) in
    subst (λ (f : Form). IsMask ports s.block (bit_or c.mask-in-Two.result c.mask-in-Two-2.result) (shape l f)) (sym c.in-Two.is)
    (mask_two ports s.block c.mask-in-Two.result c.mask-in-Two-2.result c.in-Two.field-0 (seen l a) (seen l b) one two)

pub returns-in-If : goal.returns-in-If
returns-in-If c =
    let ports = c.args.ports.now in
    let s = c.args.self.now in
    let l = c.args.list.now in
    let x = c.mask-in-If.result in
    let y = c.mask-in-If-2.result in
    let z = c.mask-in-If-3.result in
    let Is : ℕ → ℕ → Type 0 = λ mask i. IsMask ports s.block mask (seen l i) in
    let fits : (c.in-If.a < length s.masks.items) × (c.in-If.b < length s.masks.items) × (c.in-If.c < length s.masks.items) =
    subst (λ (f : Form). Fits l.tables (length s.masks.items) f) c.in-If.is c.requires.fits in
    let one : Is x c.in-If.a = subst (λ (k : ℕ). Is k c.in-If.a) (sym c.mask-in-If.ensures) (c.requires.masks.masks c.in-If.a fits.0) in
    let two : Is y c.in-If.b = subst (λ (k : ℕ). Is k c.in-If.b) (sym c.mask-in-If-2.ensures) (c.requires.masks.masks c.in-If.b fits.1) in
    let three : Is z c.in-If.c = subst (λ (k : ℕ). Is k c.in-If.c) (sym c.mask-in-If-3.ensures) (c.requires.masks.masks c.in-If.c fits.2) in
    subst (λ (f : Form). IsMask ports s.block (bit_or x (bit_or y z)) (shape l f)) (sym c.in-If.is)
    (mask_three ports s.block x y z (seen l c.in-If.a) (seen l c.in-If.b) (seen l c.in-If.c) one two three)
