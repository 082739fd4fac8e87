-- A `&` to a share holds a `&` to the content. Assumes `Logic`.
use Rattle.raw_block.proofs.Walking.{RattleType, Laws, copy_shared, RawPtr-copy}
use denote.Struct.Field.{RawPtr-field}
use denote.Struct.Lending.{of_Lends}
use Rattle.raw_block.specs.contracts.held.Share as C
use Rattle.raw_block.proofs.held.Share.TheLaw.Statement.{statement}
use Rattle.raw_block.proofs.Lending.{share_laws, lends_share}

pub shares : (T : RattleType) (L : Laws T) → statement T L
shares T L = of_Lends (C.struct T) (C.the_codes T.Denot T.coded) (C.the_heap T) (C.the_lent T)
    (λ d p. share_laws T L.shr_laws d.at d.content)
    (copy_shared RawPtr-field RawPtr-copy, tt)
    (λ M 𝓤 𝓛 d p. lends_share 𝓛 T L.shr_laws (C.the_row T).lives d.at d.life d.content d.mark d.weight)
