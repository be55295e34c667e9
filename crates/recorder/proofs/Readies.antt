-- A restarted state takes every reading that is not refused by itself.
use Rattle.std.proofs.Common.{◌≡◌, ℕ, None, Option, sym, subst}
use Rattle.family.specs.Readings.{Reading, Above}
use Rattle.family.specs.Meaning.{Meaning, Fits, refusal, form_refusal}
use Rattle.family.specs.Laws.{Laws}
use Rattle.family.proofs.Forms.{refusal_parts}

pub fresh_fits : {S : Type 0} (m : Meaning S) → Laws m → (r : Reading) → refusal m r ≡ None → (t : S) → m.restarted t → Fits m t r
fresh_fits m laws r good t z =
    let p = refusal_parts (form_refusal m r) (m.unserved r) good in
    let c = laws.some_serves r p.0 p.1 in
    record {
      above = subst (λ (o : Option ℕ). Above o r.tick) (sym (laws.restart_last t z)) tt;
      some = record { by = c.0; allowed = laws.restart_all t c.0 z; serving = c.1 };
    }
