mod Workers
