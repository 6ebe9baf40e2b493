use Rattle.gos_link.proofs.AnswerLemmas.{links_have_no_fault, links_are_one}
use Rattle.gos_link.proofs.FaceLemmas.{links_are_of_faces, faults_are_of_faces}
use Rattle.gos_link.proofs.laws.one_face.Goals as goal

pub returns-clause-links : goal.returns-clause-links
returns-clause-links c = links_are_of_faces

pub returns-clause-fault : goal.returns-clause-fault
returns-clause-fault c = faults_are_of_faces

pub returns-clause-either : goal.returns-clause-either
returns-clause-either c = links_have_no_fault c.one_joining.ensures

pub returns-clause-one : goal.returns-clause-one
returns-clause-one c = links_are_one
