use Rattle.std.proofs.Common.{refl}
use Rattle.gos_verilog.specs.declared.port_net.Role.TheVariants.{Run, Ask, Read}
use Rattle.gos_verilog.proofs.FreeLemmas.{contrary, face_found, no_face}
use Rattle.gos_verilog.proofs.faces.face_of.Goals as goal

pub returns-then-free_before : goal.returns-then-free_before
returns-then-free_before c =
    let found = c.free_before.ensures.is c.if-free_before.true in
    face_found c.args.places.now c.args.name.now found.0 c.face_in.result Run refl found.1 found.2 (c.face_in.ensures found.0 found.2)

pub returns-then-free_before-2 : goal.returns-then-free_before-2
returns-then-free_before-2 c =
    let found = c.free_before-else-free_before.ensures.is c.if-free_before-2.true in
    face_found c.args.places.now c.args.name.now found.0 c.face_in-then-free_before-2.result Ask refl found.1 found.2 (c.face_in-then-free_before-2.ensures found.0 found.2)

pub returns-then-free_before-3 : goal.returns-then-free_before-3
returns-then-free_before-3 c =
    let found = c.free_before-else-free_before-2.ensures.is c.if-free_before-3.true in
    face_found c.args.places.now c.args.name.now found.0 c.face_in-then-free_before-3.result Read refl found.1 found.2 (c.face_in-then-free_before-3.ensures found.0 found.2)

pub returns-else-free_before-3 : goal.returns-else-free_before-3
returns-else-free_before-3 c =
    no_face c.args.places.now c.args.name.now (λ front free is. contrary (c.free_before.ensures.only front free is) c.if-free_before.false)
    (λ front free is. contrary (c.free_before-else-free_before.ensures.only front free is) c.if-free_before-2.false)
    (λ front free is. contrary (c.free_before-else-free_before-2.ensures.only front free is) c.if-free_before-3.false)
