-- That the tests of names tell what is the same.
use Rattle.std.specs.Prelude.{◌≡◌, true, false}
use Rattle.std.proofs.Common.{ap, refl}
use Rattle.std.proofs.lemmas.Bool.{eqb-true, eq-eqb, false≢true}
use Rattle.resty_base.specs.declared.names.Id.{Id}
use Rattle.resty_base.specs.declared.names.Id.TheVariants as id
use Rattle.resty_base.specs.declared.names.StrandId.{StrandId}
use Rattle.resty_base.specs.declared.names.StrandId.TheVariants as strand
use Rattle.resty_world.specs.Ids.{same_id, same_strand}

pub same_id-eq : (x y : Id) → same_id x y ≡ true → x ≡ y
same_id-eq (id.Conn c) (id.Conn d) same = ap id.Conn (eqb-true c d same)
same_id-eq (id.Sock n) (id.Sock m) same = ap id.Sock (eqb-true n m same)
same_id-eq (id.Conn c) (id.Sock m) same = absurd (false≢true same)
same_id-eq (id.Sock n) (id.Conn d) same = absurd (false≢true same)

pub same_strand-eq : (x y : StrandId) → same_strand x y ≡ true → x ≡ y
same_strand-eq (strand.Conn c) (strand.Conn d) same = ap strand.Conn (eqb-true c d same)
same_strand-eq (strand.Job n) (strand.Job m) same = ap strand.Job (eqb-true n m same)
same_strand-eq (strand.Conn c) (strand.Job m) same = absurd (false≢true same)
same_strand-eq (strand.Job n) (strand.Conn d) same = absurd (false≢true same)

pub same_strand-self : (x : StrandId) → same_strand x x ≡ true
same_strand-self (strand.Conn c) = eq-eqb c c refl
same_strand-self (strand.Job n) = eq-eqb n n refl
