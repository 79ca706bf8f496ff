use Rattle.std.proofs.Common.{◌≡◌, ◌+◌, ◌-◌, ◌/◌, ◌%◌, ◌&&◌, ◌==◌, if◌then◌else◌, take, drop, refl, ap, arith}
use Rattle.net_core.specs.declared.primitive.Primitive.TheVariants.{Lut1, Lut2, Lut3, Lut4, Lut5, Lut6, Inv, Ibuf, Obuf, Bufg, Gnd, Vcc, Muxf7, Muxf8, Carry4, Fdre, Fdse, Fdce, Fdpe, Mem}
use Rattle.net_core.specs.CellTable.{pin, binary}
use Rattle.net_core.specs.PrimitiveLaws.{WidthsAgree, RulesByName}
use Rattle.net_core.proofs.primitive.names_agree.Goals as goal

agree : WidthsAgree
agree Lut1 init bit aw dw = (refl, refl)
agree Lut2 init bit aw dw = (refl, refl)
agree Lut3 init bit aw dw = (refl, refl)
agree Lut4 init bit aw dw = (refl, refl)
agree Lut5 init bit aw dw = (refl, refl)
agree Lut6 init bit aw dw = (refl, refl)
agree Inv init bit aw dw = (refl, refl)
agree Ibuf init bit aw dw = (refl, refl)
agree Obuf init bit aw dw = (refl, refl)
agree Bufg init bit aw dw = (refl, refl)
agree Gnd init bit aw dw = (refl, refl)
agree Vcc init bit aw dw = (refl, refl)
agree Muxf7 init bit aw dw = (refl, refl)
agree Muxf8 init bit aw dw = (refl, refl)
agree Carry4 init bit aw dw = (refl, refl)
agree Fdre init bit aw dw = (refl, refl)
agree Fdse init bit aw dw = (refl, refl)
agree Fdce init bit aw dw = (refl, refl)
agree Fdpe init bit aw dw = (refl, refl)
agree Mem init bit aw dw = (refl, refl)

rules : RulesByName
rules = record {
  muxf7 = λ ins content k. refl;
  muxf8 = λ ins content k. refl;
  carry_in = λ ins. refl;
  carry_s = λ ins i low. ap (pin ins) (omega (arith, low));
  carry_di = λ ins i low. ap (pin ins) (omega (arith, low));
  fdre = λ init ins content i. refl;
  fdse = λ init ins content i. refl;
  fdce = λ init ins content i. refl;
  fdpe = λ init ins content i. refl;
  fdce_output = λ init ins content k. refl;
  fdpe_output = λ init ins content k. refl;
  memory = λ aw dw ins content i low.
      let e : aw + dw - i % dw ≡ 1 + (aw + 0) + (dw - 1 - i % dw) = omega (arith, low) in
      ap (λ k. if pin ins 0 && (i / dw == binary (take aw (drop 1 ins))) then pin ins k else content i) e;
}

pub returns-clause-widths : goal.returns-clause-widths
returns-clause-widths c = agree

pub returns-clause-rules : goal.returns-clause-rules
returns-clause-rules c = rules
