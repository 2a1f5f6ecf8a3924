-- Strands that are the same.
use Rattle.std.proofs.Common.{◌≡◌, refl}
use Rattle.resty_base.specs.contracts.names.StrandIdPartialEq.TheImpl as derived
use Rattle.resty_base.specs.declared.names.StrandId.{StrandId}
use Rattle.resty_base.specs.declared.names.StrandId.TheVariants as strand
use Rattle.resty_world.specs.Ids.{same_strand}

-- what `==` returns is whether the two are the same
pub same-by-eq : (s t : StrandId) → derived.ghosts.eq s t ≡ same_strand s t
same-by-eq (strand.Conn c) (strand.Conn d) = refl
same-by-eq (strand.Job n) (strand.Job m) = refl
same-by-eq (strand.Conn c) (strand.Job m) = refl
same-by-eq (strand.Job n) (strand.Conn d) = refl
