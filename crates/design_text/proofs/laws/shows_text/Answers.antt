use Rattle.std.proofs.Common.{length, subst}
use Rattle.std.specs.Io.KnownBytes.{Appends}
use Rattle.design_text.proofs.TextLaws.{text_is, front_is}
use Rattle.design_text.proofs.laws.shows_text.Goals as goal

pub returns-clause-whole : goal.returns-clause-whole
returns-clause-whole c = λ d net own text of_top checked flat same rows g one old new shows.
    let back = c.one_run_carried.ensures d net checked flat own rows g one in
    record {
      top = own.order.top;
      is_top = own.order.is_top;
      history = back.0;
      one = back.2;
      text = subst (Appends old new) (text_is d own.number text (of_top own.order.top) same g.bit back.0.bit (λ t b is. c.bits_carried.ensures d net own back.0 g back.1 t b is) (length rows))
          (shows g one.run);
    }

pub returns-clause-front : goal.returns-clause-front
returns-clause-front c = λ d net own text of_top checked flat same rows g one old new shows.
    let back = c.one_run_carried.ensures d net checked flat own rows g one in
    record {
      top = own.order.top;
      is_top = own.order.is_top;
      history = back.0;
      one = back.2;
      text = front_is d own.number text (of_top own.order.top) same g.bit back.0.bit (λ t b is. c.bits_carried.ensures d net own back.0 g back.1 t b is) (length rows) old new
          (shows g one.run);
    }
