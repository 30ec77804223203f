use Rattle.objstore.proofs.BundleAfter.{IsStore-with_objects, has_each, others_stay, object_at-with_objects, closed_with}
use Rattle.objstore.proofs.laws.each_object_that_comes_stands_under_its_name.Goals as goal

pub returns : goal.returns
returns c = record {
  store = λ store objects is_store none. IsStore-with_objects store 0 objects is_store none;
  listed = λ store objects none at object stands. has_each store 0 objects none at object stands;
  others = λ store objects id apart. others_stay store objects id apart;
  together = λ store objects none id. object_at-with_objects store 0 objects none id;
  closed = λ store objects tips none closed. closed_with store 0 objects tips none closed;
}
