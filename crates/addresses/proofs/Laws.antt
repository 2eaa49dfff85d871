-- The laws of specs/Laws. Assumes nothing.
use Rattle.std.proofs.Common.{ℕ, ◌≤◌, List, map, length, refl, ap, ◌∙◌, subst, arith, Ok}
use Rattle.std.proofs.lemmas.List.{length-map}
use Rattle.std.proofs.lemmas.Str.{length-le-encodes}
use Rattle.marks.specs.declared.mark.Mark.TheVariants.{Char}
use Rattle.marks.specs.Streams.{Stream}
use Rattle.marks.specs.Texts.{text_stream}
use Rattle.marks.specs.TextsProper.{text_proper}
use Rattle.addresses.specs.Mailboxes.{Entry}
use Rattle.addresses.specs.Limits.{most_marks}
use Rattle.addresses.specs.Steps.{start}
use Rattle.addresses.specs.Reading.{reading, HasReading}
use Rattle.addresses.specs.Written.{written, written_bytes}
use Rattle.addresses.specs.Proper.{Proper}
use Rattle.addresses.specs.ReadsAs.{ReadsAs}
use Rattle.addresses.specs.Laws.{ReadExactly, AcceptedTakesAll, ReadIsProper, ReadsBack, ReadableIsProper, OneReading, OneList, FineIsProper}
use Rattle.addresses.proofs.Runs.{accepted, has_reading_answer}
use Rattle.addresses.proofs.ReadProper.{leads_good, ending_good, start_good}
use Rattle.addresses.proofs.WrittenSize.{bytes_written}
use Rattle.addresses.proofs.WrittenScalars.{scalars_written}
use Rattle.addresses.proofs.WrittenLeads.{written_spells}
use Rattle.addresses.proofs.TextStreams.{text_of_characters}
use Rattle.addresses.proofs.Fining.{fine_proper, proper_fine}

-- ── reads ──

pub read_exactly : ReadExactly
read_exactly ms x l = (
  λ e. let a = accepted 0 ms x start l (omega arith) e in (a.ends, (omega (arith, a.few), (a.last, a.leads, a.list))),
  λ (e, r). ap (λ y. (reading ms y).answer) e ∙ has_reading_answer ms l r,
)

pub accepted_takes_all : AcceptedTakesAll
accepted_takes_all ms x l e = (accepted 0 ms x start l (omega arith) e).takes_all

pub read_is_proper : ReadIsProper
read_is_proper ms x l k e =
    let a = accepted 0 ms x start l (omega arith) e in
    ending_good a.last l (leads_good a.leads k start_good) a.list

-- ── texts ──

-- the characters of a proper list's written text have the list as their reading
pub written_has_reading : (l : List Entry) → Proper l → HasReading (map Char (written l)) l
written_has_reading l p =
    let few : length (map Char (written l)) ≤ most_marks = omega (arith, length-map (written l) Char, bytes_written l p.limits, length-le-encodes (written l)) in
    (few, written_spells l p)

pub reads_back : ReadsBack
reads_back l p =
    let few = bytes_written l p.limits in
    let scalar = scalars_written l p.entries in
    let given = text_of_characters (written l) scalar (omega arith) in
    record {
      few = few;
      well_formed = (written l, (scalar, refl));
      back = record {
        ends = ap (λ (s : Stream). s.close) given;
        reads = ap (λ (s : Stream). (reading s.marks (Ok tt)).answer) given ∙ has_reading_answer (map Char (written l)) l (written_has_reading l p);
      };
    }

pub reads_as_proper : (bs : List ℕ) (l : List Entry) → ReadsAs bs l → Proper l
reads_as_proper bs l r = read_is_proper (text_stream bs).marks (Ok tt) l (text_proper bs 0) r.reads

pub readable_is_proper : ReadableIsProper
readable_is_proper l = (λ (bs, r). reads_as_proper bs l r, λ p. (written_bytes l, (reads_back l p).back))

pub one_reading : OneReading
one_reading bs l k r s = cc (r.reads, s.reads)

pub one_list : OneList
one_list l k p q e = one_reading (written_bytes k) l k (subst (λ bs. ReadsAs bs l) e (reads_back l p).back) (reads_back k q).back

pub fine_is_proper : FineIsProper
fine_is_proper l = (fine_proper l, proper_fine l)
