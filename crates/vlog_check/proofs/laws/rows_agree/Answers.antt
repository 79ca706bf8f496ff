use Rattle.std.proofs.Common.{refl}
use Rattle.vlog_check.specs.declared.primitive.Primitive.TheVariants.{Lut1, Lut2, Lut3, Lut4, Lut5, Lut6, Inv, Ibuf, Obuf, Bufg, Gnd, Vcc, Muxf7, Muxf8, Carry4, Fdre, Fdse, Fdce, Fdpe, Mem}
use Rattle.vlog_check.specs.CellRows.{RowsAgree}
use Rattle.vlog_check.proofs.laws.rows_agree.Goals as goal

agree : RowsAgree
agree Lut1 init bit aw dw = (refl, refl)
agree Lut2 init bit aw dw = (refl, refl)
agree Lut3 init bit aw dw = (refl, refl)
agree Lut4 init bit aw dw = (refl, refl)
agree Lut5 init bit aw dw = (refl, refl)
agree Lut6 init bit aw dw = (refl, refl)
agree Inv init bit aw dw = (refl, refl)
agree Ibuf init bit aw dw = (refl, refl)
agree Obuf init bit aw dw = (refl, refl)
agree Bufg init bit aw dw = (refl, refl)
agree Gnd init bit aw dw = (refl, refl)
agree Vcc init bit aw dw = (refl, refl)
agree Muxf7 init bit aw dw = (refl, refl)
agree Muxf8 init bit aw dw = (refl, refl)
agree Carry4 init bit aw dw = (refl, refl)
agree Fdre init bit aw dw = (refl, refl)
agree Fdse init bit aw dw = (refl, refl)
agree Fdce init bit aw dw = (refl, refl)
agree Fdpe init bit aw dw = (refl, refl)
agree Mem init bit aw dw = (refl, refl)

pub returns : goal.returns
returns c = agree
