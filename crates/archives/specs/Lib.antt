-- What the private functions promise; the one public function is lent nothing and answers nothing.
pub mod Printed
