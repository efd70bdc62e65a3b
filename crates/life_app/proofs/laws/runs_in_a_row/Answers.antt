use Rattle.life_app.proofs.LeftLaws.{left_so}
use Rattle.life_app.proofs.RunLaws.{runs_left}
use Rattle.life_app.proofs.laws.runs_in_a_row.Goals as goal

pub returns : goal.returns
returns g c = record {
  left = λ first last commands runs image safe opens are left.
      runs_left g.D.Disk (record {
        reads_as_image = λ disk honest. g.met.D.Disk.reads_as_image disk honest;
        counts_now = λ disk moment image honest passed may. g.met.D.Disk.counts_now disk moment image honest passed may;
        only_now = λ disk image honest left. g.met.D.Disk.only_now disk image honest left;
      }) first last commands runs image safe opens are left;
  so = λ old new second kept input read output written shelf asked words auditors status obeys.
      left_so g.D.Disk old new g.E.Disk second kept auditors _ _ _ _ _ words obeys.ending obeys.does;
}
